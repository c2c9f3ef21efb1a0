-- Spans on lists of marks and values: the tests that the code makes are those of document 01's acceptance, and a
-- count that has reached what is needed stays there.
-- Assumes nothing.
use mathlib.Core.Bool.{Bool, true, false, cond, not, ◌&&◌}
use mathlib.Core.List.{List}
use mathlib.Core.Logic.{◌⊎◌, inr, ⊎_elim}
use mathlib.Core.Path.{◌≡◌, refl, sym, ap, ◌∙◌}
use Prim.Native.Nat.{ℕ, zero, suc, ◌+◌, ◌-◌, ◌≤◌, ◌<◌, zero-le, suc-le-suc}
use native.Mathlib.Nat.{le_refl, le_trans, le_of_suc-le-suc, not-suc-le-zero}
use native.Mathlib.Omega.{arith}
use borrow.Author.Count.{below_more}
use borrow.Author.Tests.{le-leb, lt-leb, leb-true, eqb-true, eqb-false, ltb-true}
use lib.Dec.{leb, ltb, eqb}
use lib.ListN.{length, get_or, set, length-set}
use mir.Val.{bool_byte}
use lib.Seq.{get_or-set_same, get_or-set_other}
use Rattle.arithmetic.specs.Counting.{bit, count}
use Rattle.arithmetic.proofs.Bools.{and_left, and_right, and_intro, and_false, clash}
use Rattle.arithmetic.proofs.Counting.{split-last, count-le, count_ext, count_mono, count-not}
use Rattle.arithmetic.proofs.Counting.{any_some, any-true, any_false, any_ext}
use Rattle.arithmetic.specs.Words.{two_to31}
use Rattle.model.specs.Ensemble.{max_cabinets}
use Rattle.round_laws.specs.Naturals.{spans, accepted_nat}
use Rattle.round_laws.proofs.Shifted.{accepted-shifted}
use Rattle.round_laws.proofs.Natural.{accepted-present}
use Rattle.loop_laws.proofs.Loops.{flag, count_next}
use Rattle.held.specs.Held.{value_at, present_in}
use Rattle.spans.specs.Spans.{in_span, held_at}
use Rattle.span_counts.specs.Places.{places}
use Rattle.acceptance.specs.Values.{accepted_in, enough_at, admits, admitted, Remembered, Holds, Begins}
use Rattle.acceptance.specs.Values.{one_pass, passed_at, Counting}
use Rattle.starts.specs.declared.Known.{Known}
use Rattle.starts.specs.declared.Known.TheVariants.{Uncounted, Enough}
use Rattle.starts.specs.Starts.{judged_of, is_short, spanned_from}
use Rattle.std.specs.Prelude.{Option, None, Some, is_some, IfSome}

-- ---- counting

count_grows : (p : ℕ → Bool) (m n : ℕ) → m ≤ n → count p m ≤ count p n
unfolding count
count_grows p m zero h = let e : m ≡ 0 = omega arith in rw e (le_refl 0)
count_grows p m (suc n) h =
    ⊎_elim
    (λ l. let ih = count_grows p m n (le_of_suc-le-suc l) in omega arith)
    (λ e. rw e (le_refl (count p n + bit (p n))))
    (split-last m (suc n) (suc-le-suc h))

-- each index left counts for one at most
count_left : (p : ℕ → Bool) (m n : ℕ) → m ≤ n → count p n ≤ count p m + (n - m)
count_left p m n h =
    let misses = count_grows (λ i. not (p i)) m n h in
    omega (arith, count-not p m, count-not p n, misses)

-- what a present reading counts for, and a missing one
module _ (start w : ℕ) (marks values : List ℕ) (t : ℕ) {p : Bool} (e : p ≡ present_in marks t) where
  pub counts-present :
      p ≡ true
      → (q : Bool)
      → q ≡ in_span start w (value_at values t)
      → bool_byte q ≡ bit (held_at start w marks values t)
  unfolding held_at
  counts-present m q f = rw (sym e ∙ m) (flag q ∙ ap bit f)

  pub counts-missing : p ≡ false → bit (held_at start w marks values t) ≡ 0
  unfolding held_at
  counts-missing m = rw (sym e ∙ m)

-- the readings of a span that are counted next: one by one, or all at once
module _ (w : ℕ) (marks values : List ℕ) (start c t : ℕ) (so_far : Counting w marks values start c t)
    (below : t < length marks) where
  abbrev held : ℕ → Bool
  held = held_at start w marks values

  pub passed_further : (t < passed_at (length marks) t) × (passed_at (length marks) t ≤ length marks)
  passed_further = go (leb one_pass (length marks))
    where
      go : (b : Bool) → (t < cond b (length marks) (t + 1)) × (cond b (length marks) (t + 1) ≤ length marks)
      go true = (below, le_refl (length marks))
      go false = (omega arith, omega arith)

  pub counted-few : c ≤ length marks
  counted-few = let l = count-le held t in omega (arith, so_far.0)

  pub counted-all :
      length values ≡ length marks
      → length marks ≤ max_cabinets
      → one_pass ≤ length marks
      → (h : ℕ)
      → h ≡ count held (places (length marks) (length values))
      → c + h ≡ count held (passed_at (length marks) t)
  unfolding count
  counted-all alike few wide h e =
      let z = so_far.1 below wide in
      let none : c ≡ 0 = so_far.0 ∙ ap (count held) z in
      let n : places (length marks) (length values) ≡ length marks = omega arith in
      rw (le-leb one_pass (length marks) wide) (omega (arith, none, e ∙ ap (count held) n))

  pub counted-one :
      length marks < one_pass → (n : ℕ) → n ≡ c + bit (held t) → n ≡ count held (passed_at (length marks) t)
  counted-one narrow n e =
      rw (lt-leb one_pass (length marks) narrow)
      (e ∙ ap (λ (a : ℕ). a + bit (held t)) so_far.0 ∙ sym (count_next held t))

  pub counting_on :
      (c' : ℕ)
      → c' ≡ count held (passed_at (length marks) t)
      → Counting w marks values start c' (passed_at (length marks) t)
  counting_on c' e = (e, go (leb one_pass (length marks)) refl)
    where
      go :
          (b : Bool)
          → leb one_pass (length marks) ≡ b
          → cond b (length marks) (t + 1) < length marks
          → one_pass ≤ length marks
          → cond b (length marks) (t + 1) ≡ 0
      go true q l wide = absurd (omega (arith, l))
      go false q l wide = absurd (clash (le-leb one_pass (length marks) wide) q)

-- ---- acceptance, start by start

module _ (w need : ℕ) (marks values : List ℕ) where
  -- what document 01's search over starts asks of a start
  abbrev asked : ℕ → ℕ → Bool
  asked r s =
      spans w (present_in marks) (value_at values) s r
      && leb need (count (spans w (present_in marks) (value_at values) s) (length marks))

  -- of a present reading it is whether the start admits it
  asked-admits :
      (r s : ℕ) → present_in marks r ≡ true → asked r s ≡ admits w need marks values (value_at values r) s
  unfolding admits enough_at held_at
  asked-admits r s p = rw p (go (present_in marks s) refl)
    where
      go :
          (q : Bool)
          → present_in marks s ≡ q
          → ((q && in_span (value_at values s) w (value_at values r))
          && leb need (count (spans w (present_in marks) (value_at values) s) (length marks)))
          ≡ ((q && in_span (value_at values s) w (value_at values r))
          && leb need (count (held_at (value_at values s) w marks values) (length marks)))
      go false e = refl
      go true e =
          ap (λ (c : ℕ). in_span (value_at values s) w (value_at values r) && leb need c)
          (count_ext (spans w (present_in marks) (value_at values) s) (held_at (value_at values s) w marks values)
          (length marks)
          (λ t _. ap (λ (b : Bool). b && (present_in marks t && in_span (value_at values s) w (value_at values t))) e))

  -- document 01's test is that of the naturals
  accepted-held :
      (r : ℕ)
      → accepted_in w need marks values r ≡ accepted_nat w (present_in marks) (value_at values) need (length marks) r
  unfolding accepted_in
  accepted-held r = accepted-shifted w (present_in marks) (value_at values) two_to31 need (length marks) r

  -- it asks of a present reading for a start that admits it
  pub accepted-admitted :
      (r : ℕ)
      → present_in marks r ≡ true
      → accepted_in w need marks values r ≡ admitted w need marks values (value_at values r)
  unfolding accepted_nat admitted
  accepted-admitted r p =
      accepted-held r
      ∙ any_ext (asked r) (admits w need marks values (value_at values r)) (length marks) (λ s _. asked-admits r s p)

  -- an accepted reading is present
  pub held-present : (r : ℕ) → accepted_in w need marks values r ≡ true → present_in marks r ≡ true
  held-present r e =
      accepted-present w (present_in marks) (value_at values) need (length marks) r (sym (accepted-held r) ∙ e)

  pub missing-not : (r : ℕ) → present_in marks r ≡ false → accepted_in w need marks values r ≡ false
  missing-not r m = go (accepted_in w need marks values r) refl
    where
      go : (b : Bool) → accepted_in w need marks values r ≡ b → b ≡ false
      go true e = absurd (clash (held-present r e) m)
      go false e = refl

  -- a present reading in the span of a start that holds enough is accepted
  span-accepts :
      (s r : ℕ)
      → Holds w need marks values s
      → present_in marks r ≡ true
      → in_span (value_at values s) w (value_at values r) ≡ true
      → accepted_in w need marks values r ≡ true
  unfolding admitted admits
  span-accepts s r holds present inside =
      accepted-admitted r present
      ∙ any-true (admits w need marks values (value_at values r)) (length marks) s holds.0
      (and_intro (and_intro holds.1 inside) holds.2)

  -- the start that accepted an earlier reading, where its span holds this one too
  pub joined-accepted :
      (earlier : Option ℕ) (r : ℕ)
      → present_in marks r ≡ true
      → IfSome earlier (Begins w need marks values)
      → IfSome (spanned_from earlier w (value_at values r)) (Begins w need marks values)
      × (is_some (spanned_from earlier w (value_at values r)) ≡ true → accepted_in w need marks values r ≡ true)
  joined-accepted None r present begins = (tt, λ t. absurd (clash t refl))
  joined-accepted (Some v) r present begins = go (in_span v w (value_at values r)) refl
    where
      go :
          (b : Bool)
          → in_span v w (value_at values r) ≡ b
          → IfSome (cond b (Some v) None) (Begins w need marks values)
          × (is_some (cond b (Some v) None) ≡ true → accepted_in w need marks values r ≡ true)
      go true e = (begins, λ _. span-accepts begins.0 r begins.1 present (rw begins.2 e))
      go false e = (tt, λ t. absurd (clash t refl))

  -- so an accepted reading is one of enough
  accepted-enough :
      (r : ℕ) → accepted_in w need marks values r ≡ true → need ≤ count (accepted_in w need marks values) (length marks)
  unfolding admitted admits enough_at held_at
  accepted-enough r e =
      let found =
      any_some (admits w need marks values (value_at values r)) (length marks)
      (sym (accepted-admitted r (held-present r e)) ∙ e) in
      let s = found.0 in
      let from = present_in marks s && in_span (value_at values s) w (value_at values r) in
      let enough = and_right from _ found.2 in
      let start = and_left (present_in marks s) _ (and_left from _ found.2) in
      le_trans (leb-true need _ enough)
      (count_mono (held_at (value_at values s) w marks values) (accepted_in w need marks values) (length marks)
      (λ t _ h.
      span-accepts s t (found.1, start, enough) (and_left (present_in marks t) _ h)
      (and_right (present_in marks t) _ h)))

  -- where those before a reading and those left are too few, it is not
  too_few-not :
      (r : ℕ)
      → r < length marks
      → count (accepted_in w need marks values) r + (length marks - r) < need
      → accepted_in w need marks values r ≡ false
  too_few-not r l few = go (accepted_in w need marks values r) refl
    where
      go : (b : Bool) → accepted_in w need marks values r ≡ b → b ≡ false
      go true e =
          let most = count_left (accepted_in w need marks values) r (length marks) (omega arith) in
          absurd (omega (arith, few, most, accepted-enough r e))
      go false e = refl

  -- what is answered of v: a start that admits it, or none
  abbrev pub Answer : ℕ → List Known → Option ℕ → Type 0
  Answer v known s =
      (is_some s ≡ admitted w need marks values v)
      × (IfSome s (Holds w need marks values) × Remembered w need marks values known)

  -- the start a is stored as what it is
  remember :
      (known : List Known) (a : ℕ) (v : Known)
      → a < length known
      → (a < length marks → v ≡ judged_of (enough_at w need marks values a))
      → Remembered w need marks values known
      → Remembered w need marks values (set known a v)
  remember known a v h e f b l = go (eqb b a) refl
    where
      go :
          (t : Bool)
          → eqb b a ≡ t
          → (get_or (set known a v) b Uncounted ≡ Uncounted)
          ⊎ (get_or (set known a v) b Uncounted ≡ judged_of (enough_at w need marks values b))
      go true q =
          let s : b ≡ a = eqb-true b a q in
          let m : a < length marks = omega (arith, l) in
          rw s (inr (get_or-set_same known a v Uncounted h ∙ e m))
      go false q = rw (get_or-set_other known a b v Uncounted (eqb-false b a q)) (f b l)

  -- one where the accepted ones before it and those left are too few is not accepted
  pub decided_too_few :
      (r before : ℕ) {b : Bool}
      → r < length marks
      → before ≡ count (accepted_in w need marks values) r
      → b ≡ ltb (before + (length marks - r)) need
      → b ≡ true
      → false ≡ accepted_in w need marks values r
  decided_too_few r before l exact e t =
      let few = ltb-true (before + (length marks - r)) need (sym e ∙ t) in
      sym (too_few-not r l (omega (arith, few, exact)))

  -- the start that gives the answer is remembered
  pub remembered-answered :
      (known : List Known) (s : ℕ)
      → length known ≡ max_cabinets
      → length marks ≤ max_cabinets
      → Holds w need marks values s
      → Remembered w need marks values known
      → Remembered w need marks values (set known s Enough)
  remembered-answered known s long few holds m =
      let below = holds.0 in
      remember known s Enough (omega arith) (λ _. ap judged_of (sym holds.2)) m

  -- where the starts below s are tried, and the memory is sound
  pub record Tried (v : ℕ) (known : List Known) (s : ℕ) : Type 0 where
    pub few : length marks ≤ max_cabinets
    pub long : length known ≡ max_cabinets
    pub none : (a : ℕ) → a < s → admits w need marks values v a ≡ false
    pub memory : Remembered w need marks values known

  -- where the span from s is counted up to t, and is short so far
  pub record Counted (s counted t : ℕ) : Type 0 where
    pub up_to : t ≤ length marks
    pub exact : Counting w marks values (value_at values s) counted t
    pub short : 0 < t → counted < need

  -- the loop over starts begins
  pub untried :
      (v : ℕ) (known : List Known)
      → length marks ≤ max_cabinets
      → length known ≡ max_cabinets
      → Remembered w need marks values known
      → Tried v known 0
  untried v known f l m =
      record { few = f; long = l; none = λ a h. absurd (not-suc-le-zero h); memory = m }

  -- no start admits v
  pub unanswered : (v : ℕ) (known : List Known) (s : ℕ) → Tried v known s → length marks ≤ s → false ≡ admitted w need marks values v
  unfolding admitted
  unanswered v known s tried h =
      sym (any_false (admits w need marks values v) (length marks) (λ a l. tried.none a (omega (arith, l, h))))

  -- the loop over readings begins
  pub uncounted : (s : ℕ) → Counted s 0 0
  unfolding count
  uncounted s =
      record { up_to = zero-le; exact = (refl, λ _ _. refl); short = λ h. absurd (not-suc-le-zero h) }

  module _ (v : ℕ) (known : List Known) (s : ℕ) (below : s < length marks) (tried : Tried v known s) where
    -- a start that does not admit v is passed
    pass :
        (known' : List Known)
        → length known' ≡ max_cabinets
        → Remembered w need marks values known'
        → admits w need marks values v s ≡ false
        → Tried v known' (s + 1)
    pass known' l m e =
        record {
          few = tried.few;
          long = l;
          none = below_more (λ (a : ℕ). admits w need marks values v a ≡ false) s tried.none e;
          memory = m;
        }

    module _ {b : Bool}
        (tries :
        b ≡ (not (is_short (get_or known s Uncounted)) && (present_in marks s && in_span (value_at values s) w v))) where
      -- a start that is remembered as short, or whose span does not hold v
      pub pass-untried : b ≡ false → Tried v known (s + 1)
      unfolding admits
      pass-untried f =
          pass known tried.long tried.memory
          (go (present_in marks s && in_span (value_at values s) w v) (enough_at w need marks values s)
          (tried.memory s below)
          (sym tries ∙ f))
        where
          go :
              (a b : Bool)
              → (get_or known s Uncounted ≡ Uncounted) ⊎ (get_or known s Uncounted ≡ judged_of b)
              → (not (is_short (get_or known s Uncounted)) && a) ≡ false
              → (a && b) ≡ false
          go false b m q = refl
          go true false m q = refl
          go true true m q = absurd (⊎_elim (λ z. differ Uncounted z refl) (λ z. differ Enough z refl) m)
            where
              differ : (k : Known) → get_or known s Uncounted ≡ k → is_short k ≡ false → ⊥
              differ k z f = clash (ap (λ (v : Known). not (is_short v) && true) z ∙ ap (λ (t : Bool). not t && true) f) q

      -- a start that is tried, and holds enough
      module _ (t : b ≡ true) where
        tested : (present_in marks s && in_span (value_at values s) w v) ≡ true
        tested = and_right (not (is_short (get_or known s Uncounted))) _ (sym tries ∙ t)

        pub answered : enough_at w need marks values s ≡ true → true ≡ admitted w need marks values v
        unfolding admitted admits
        answered e = sym (any-true (admits w need marks values v) (length marks) s below (and_intro tested e))

        pub answered-holds : enough_at w need marks values s ≡ true → Holds w need marks values s
        answered-holds e = (below, and_left (present_in marks s) _ tested, e)

      -- one that is remembered as such holds enough
      pub known_enough : get_or known s Uncounted ≡ Enough → enough_at w need marks values s ≡ true
      known_enough two =
          ⊎_elim (λ z. absurd (none (sym z ∙ two))) (λ z. go (enough_at w need marks values s) (sym z ∙ two)) (tried.memory s below)
        where
          none : Uncounted ≡ Enough → ⊥
          none z = cc

          go : (b : Bool) → judged_of b ≡ Enough → b ≡ true
          go true z = refl
          go false z = cc

    -- the count reached n: the start is short, and is stored so
    pub pass-counted :
        (c t : ℕ) (k : Known)
        → Counted s c t
        → length marks ≤ t
        → k ≡ judged_of (leb need c)
        → Tried v (set known s k) (s + 1)
    unfolding enough_at admits
    pass-counted c t k so_far h judged =
        let n : t ≡ length marks = omega (arith, so_far.up_to) in
        let held = held_at (value_at values s) w marks values in
        let exact : c ≡ count held (length marks) = so_far.exact.0 ∙ ap (count held) n in
        let room : s < length known = omega (arith, tried.few, tried.long) in
        pass (set known s k) (length-set known s k ∙ tried.long)
        (remember known s k room (λ _. judged ∙ ap (λ (i : ℕ). judged_of (leb need i)) exact) tried.memory)
        (and_false (present_in marks s && in_span (value_at values s) w v)
        (ap (leb need) (sym exact) ∙ lt-leb need c (so_far.short (omega arith))))

  module _ (s c t : ℕ) (so_far : Counted s c t) (below : t < length marks) (c' : ℕ)
      (exact : c' ≡ count (held_at (value_at values s) w marks values) (passed_at (length marks) t)) where
    -- a turn over readings that leaves the start short
    pub count_on : c' < need → Counted s c' (passed_at (length marks) t)
    count_on l =
        record {
          up_to = (passed_further w marks values (value_at values s) c t so_far.exact below).1;
          exact = counting_on w marks values (value_at values s) c t so_far.exact below c' exact;
          short = λ _. l;
        }

    -- one that finds enough
    pub count-enough : need ≤ c' → enough_at w need marks values s ≡ true
    unfolding enough_at
    count-enough l =
        let held = held_at (value_at values s) w marks values in
        let g =
        count_grows held (passed_at (length marks) t) (length marks)
        (passed_further w marks values (value_at values s) c t so_far.exact below).1 in
        le-leb need (count held (length marks)) (omega (arith, exact))
