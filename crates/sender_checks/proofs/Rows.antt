-- The rows of marks, one for each sender in turn, and what was found in those passed: row k of n marks is of sender
-- k % n, since the entries k × n to k × n + n - 1 have the quotient k.
-- Assumes nothing.
use mathlib.Core.Bool.{Bool, false, ◌&&◌, ◌||◌}
use mathlib.Core.List.{List, ◌++◌}
use mathlib.Core.Path.{◌≡◌, sym, ap, ap₂, ◌∙◌}
use Prim.Native.Nat.{ℕ, ◌+◌, ◌*◌, ◌-◌, ◌%◌, ◌≤◌, ◌<◌, min}
use native.Mathlib.Nat.{add-mul, one-mul, zero-mul}
use native.Mathlib.Omega.{arith}
use lib.Arith.{digits_div}
use lib.Dec.{eqb}
use lib.ListN.{length, drop, length-drop, get_or-append, get_or-eq_default}
use lib.Seq.{get_or-drop, drop-append_seam}
use Rattle.std.proofs.lemmas.List.{length-append, drop-drop}
use Rattle.arithmetic.specs.Counting.{any_below}
use Rattle.arithmetic.proofs.Counting.{any_ext, any_false}
use Rattle.model.specs.RoundSheet.{byte}
use Rattle.trace.specs.Trace.{sender_of}
use Rattle.sender_checks.specs.Senders.{present_in, sent_at, sent_in}
use Rattle.sender_checks.proofs.Any.{any_none, any-parts, any-both}

-- a row that is cut off the front of what is left of the marks
module _ (marks row rest : List ℕ) (start : ℕ) (cut : drop start marks ≡ row ++ rest) where
  row_at : (j : ℕ) → j < length row → byte row j ≡ byte marks (start + j)
  row_at j h =
      sym (get_or-append row rest 0 j h) ∙ ap (λ (l : List ℕ). byte l j) (sym cut) ∙ get_or-drop start marks j 0

  row-present : present_in row ≡ any_below (λ j. eqb (byte marks (start + j)) 1) (length row)
  unfolding present_in
  row-present =
      any_ext (λ j. eqb (byte row j) 1) (λ j. eqb (byte marks (start + j)) 1) (length row)
      (λ j h. ap (λ (x : ℕ). eqb x 1) (row_at j h))

  rest_is : rest ≡ drop (start + length row) marks
  rest_is =
      sym (drop-append_seam row rest)
      ∙ ap (drop (length row)) (sym cut)
      ∙ drop-drop (length row) start marks

module _ (roles marks : List ℕ) where
  -- nobody sent where there is nobody
  pub no_sender : length roles ≡ 0 → false ≡ sent_in roles marks
  unfolding sent_in
  no_sender z = sym (any_false (sent_at roles marks) (length marks) (λ e h. rw (get_or-eq_default roles 0 (all e))))
    where
      all : (e : ℕ) → length roles ≤ sender_of (length roles) e
      all e = omega arith

  -- what is known before row k, of what is left of the marks, to be cut in rows of this size
  pub record Passed (found : Bool) (k size : ℕ) (left : List ℕ) : Type 0 where
    pub start : ℕ
    pub place : start ≡ min (k * length roles) (length marks)
    pub wide : size ≡ length roles
    pub rest : left ≡ drop start marks
    pub exact : found ≡ any_below (sent_at roles marks) start

  pub passed_none :
      {k size : ℕ} {left : List ℕ} → k ≡ 0 → size ≡ length roles → left ≡ marks → Passed false k size left
  passed_none {k} none wide whole =
      record {
        start = 0;
        place = omega (arith, ap (λ (x : ℕ). x * length roles) none, zero-mul (length roles));
        wide = wide;
        rest = whole;
        exact = any_none (sent_at roles marks);
      }

  pub passed-row :
      {found sent : Bool} {k i later size wide : ℕ} {left : List ℕ} (row rest : List ℕ) → Passed found k size left
      → wide ≡ size
      → left ≡ row ++ rest
      → length row ≡ min size (length left)
      → 0 < length left
      → i ≡ k
      → later ≡ k + 1
      → sent ≡ (eqb (byte roles (i % length roles)) 1 && present_in row)
      → Passed (found || sent) later wide rest
  passed-row {k = k} {i = i} {left = left} row rest p same cut long more turn step s =
      record {
        start = p.start + length row;
        place = let h = p.place in let l = length-append row rest in omega (arith, remain, next, ap length cut, ap (λ (x : ℕ). x * length roles) step);
        wide = same ∙ p.wide;
        rest = rest_is marks row rest p.start (sym p.rest ∙ cut);
        exact = ap₂ (λ (a b : Bool). a || b) p.exact (s ∙ sym of_row) ∙ sym (any-parts (sent_at roles marks) p.start (length row));
      }
    where
      remain : length left ≡ length marks - p.start
      remain = ap length p.rest ∙ length-drop p.start marks

      next : (k + 1) * length roles ≡ k * length roles + length roles
      next = add-mul k 1 (length roles) ∙ ap (λ (x : ℕ). k * length roles + x) (one-mul (length roles))

      of_sender : (j : ℕ) → j < length row → sender_of (length roles) (p.start + j) ≡ i % length roles
      of_sender j h =
          ap (λ (x : ℕ). sender_of (length roles) (x + j)) here
          ∙ ap (λ (q : ℕ). q % length roles) (digits_div k (omega (arith, p.wide)))
          ∙ ap (λ (q : ℕ). q % length roles) (sym turn)
        where
          here : p.start ≡ k * length roles
          here = let h = p.place in omega (arith, remain)

      of_row : any_below (λ j. sent_at roles marks (p.start + j)) (length row)
          ≡ (eqb (byte roles (i % length roles)) 1 && present_in row)
      of_row =
          any_ext
          (λ j. sent_at roles marks (p.start + j))
          (λ j. eqb (byte roles (i % length roles)) 1 && eqb (byte marks (p.start + j)) 1)
          (length row)
          (λ j h. ap (λ (i : ℕ). eqb (byte roles i) 1 && eqb (byte marks (p.start + j)) 1) (of_sender j h))
          ∙ any-both (λ j. eqb (byte marks (p.start + j)) 1) (eqb (byte roles (i % length roles)) 1) (length row)
          ∙ ap (λ (b : Bool). eqb (byte roles (i % length roles)) 1 && b)
          (sym (row-present marks row rest p.start (sym p.rest ∙ cut)))

  pub passed-all : {found : Bool} {k size : ℕ} {left : List ℕ} → Passed found k size left → length left ≡ 0
      → found ≡ sent_in roles marks
  unfolding sent_in
  passed-all {left = left} p none =
      p.exact ∙ ap (any_below (sent_at roles marks)) all
    where
      remain : length left ≡ length marks - p.start
      remain = ap length p.rest ∙ length-drop p.start marks

      all : p.start ≡ length marks
      all = let h = p.place in omega (arith, remain, none)
