-- Checks 8, 9 and 14 of the parts of a trace that hold its roles, its marks and its readings are those of the trace.
-- Assumes nothing.
use mathlib.Core.Bool.{Bool, false, ◌&&◌, ◌||◌}
use mathlib.Core.List.{List}
use mathlib.Core.Option.{Option, none, some}
use mathlib.Core.Path.{◌≡◌, refl, sym, ap, ap₂, ◌∙◌}
use Prim.Native.Nat.{ℕ, ◌+◌, ◌*◌, ◌-◌, ◌≤◌, ◌<◌}
use native.Mathlib.Nat.{mod-lt}
use native.Mathlib.Omega.{arith}
use borrow.Author.Tests.{eq-eqb, le-ltb}
use lib.Dec.{ltb, eqb}
use lib.ListN.{length, take, drop, length-drop}
use lib.Seq.{length-take-le, get_or-take, get_or-drop, take_all}
use Rattle.arithmetic.specs.Counting.{any_below, lowest}
use Rattle.arithmetic.proofs.Counting.{any_ext, lowest_ext}
use Rattle.model.specs.RoundSheet.{byte, word}
use Rattle.model.specs.Refusals.{Check, Refusal, refuse_if, at_entry, or_next, first_of, array_checks, bad_mark, bad_missing, not_zero}
use Rattle.model.specs.Refusals.{bad_mark_number, bad_missing_number, bad_roles_number}
use Rattle.refusal_laws.proofs.Checks.{next-none, first_snoc}
use Rattle.trace.specs.Trace.{trace_header_size, role_at, sound_at, sender_of, trace_entries, traced_mark, traced_bits}
use Rattle.sheet_sizes.specs.Bounds.{most_entries}
use Rattle.mark_checks.specs.Marks.{marks_in}
use Rattle.missing_search.specs.Missing.{missing_in}
use Rattle.sender_checks.specs.Senders.{sent_at, sent_in}
use Rattle.role_checks.specs.Roles.{strange_in, roles_in}
use Rattle.entry_checks.proofs.Body.{word-drop}
use Rattle.trace_checks.specs.Bodies.{Shaped, roles_of, body_of}

-- the bytes from one place up to another
abbrev pub part : List ℕ → ℕ → ℕ → List ℕ
part s from to = take (to - from) (drop from s)

module _ (s : List ℕ) (from to : ℕ) (fits : to ≤ length s) where
  part-long : length (part s from to) ≡ to - from
  part-long = let d = length-drop from s in length-take-le (to - from) (drop from s) (omega arith)

  part_at : (i : ℕ) → i < to - from → byte (part s from to) i ≡ byte s (from + i)
  part_at i h = get_or-take (to - from) (drop from s) i 0 h ∙ get_or-drop from s i 0

module _ (s : List ℕ) (n rounds : ℕ) (shaped : Shaped s n rounds) where
  abbrev start : ℕ
  start = trace_header_size + 5 * n

  abbrev entries : ℕ
  entries = trace_entries n rounds

  abbrev marks : List ℕ
  marks = part s start (start + entries)

  abbrev readings : List ℕ
  readings = part s (start + entries) (length s)

  abbrev roles : List ℕ
  roles = part s trace_header_size (trace_header_size + n)

  marks-long : length marks ≡ entries
  marks-long = let l = part-long s start (start + entries) (omega (arith, shaped.long)) in omega arith

  marks-at : (e : ℕ) → e < entries → byte marks e ≡ traced_mark s n e
  marks-at e h = part_at s start (start + entries) (omega (arith, shaped.long)) e (omega arith)

  roles-long : length roles ≡ n
  roles-long = let l = part-long s trace_header_size (trace_header_size + n) (omega (arith, shaped.long)) in omega arith

  roles-at : (p : ℕ) → p < n → byte roles p ≡ role_at s p
  roles-at p h = part_at s trace_header_size (trace_header_size + n) (omega (arith, shaped.long)) p (omega arith)

  readings-at : (e : ℕ) → word readings (4 * e) ≡ traced_bits s n rounds e
  readings-at e =
      ap (λ (l : List ℕ). word l (4 * e))
      (take_all (length s - (start + entries)) (drop (start + entries) s)
      (let d = length-drop (start + entries) s in omega arith))
      ∙ word-drop s (start + entries) (4 * e)

  -- there are four bytes for each mark
  four : length readings ≡ 4 * length marks
  four =
      let m = marks-long in
      let r = part-long s (start + entries) (length s) (omega arith) in
      omega (arith, shaped.long)

  fits : ltb most_entries (length marks) ≡ false
  fits = le-ltb most_entries (length marks) (rw marks-long shaped.few)

  -- ---- 8

  marks_checked : marks_in marks ≡ bad_mark (traced_mark s n) entries
  unfolding marks_in bad_mark
  marks_checked =
      rw fits
      (ap (λ (k : ℕ). at_entry (lowest (λ e. ltb 1 (byte marks e)) k) bad_mark_number) marks-long
      ∙ ap (λ (o : Option ℕ). at_entry o bad_mark_number)
      (lowest_ext (λ e. ltb 1 (byte marks e)) (λ e. ltb 1 (traced_mark s n e)) entries
      (λ e h. ap (ltb 1) (marks-at e h))))

  -- ---- 9

  missing_checked : missing_in marks readings ≡ bad_missing (traced_mark s n) (traced_bits s n rounds) entries
  unfolding missing_in bad_missing
  missing_checked =
      rw (fits, eq-eqb (length readings) (4 * length marks) four)
      (ap
      (λ (k : ℕ). at_entry (lowest (λ e. not_zero (byte marks e) (word readings (4 * e))) k) bad_missing_number)
      marks-long
      ∙ ap (λ (o : Option ℕ). at_entry o bad_missing_number)
      (lowest_ext
      (λ e. not_zero (byte marks e) (word readings (4 * e)))
      (λ e. not_zero (traced_mark s n e) (traced_bits s n rounds e))
      entries
      (λ e h. ap₂ not_zero (marks-at e h) (readings-at e))))

  -- ---- 14

  strange-same : strange_in roles ≡ any_below (λ p. ltb 1 (role_at s p)) n
  unfolding strange_in
  strange-same =
      ap (any_below (λ p. ltb 1 (byte roles p))) roles-long
      ∙ any_ext (λ p. ltb 1 (byte roles p)) (λ p. ltb 1 (role_at s p)) n (λ p h. ap (ltb 1) (roles-at p h))

  role_same : (e : ℕ) → byte roles (sender_of (length roles) e) ≡ role_at s (sender_of n e)
  role_same e =
      ap (λ (k : ℕ). byte roles (sender_of k e)) roles-long ∙ roles-at (sender_of n e) (mod-lt _ shaped.some_cabinet)

  sent-same :
      sent_in roles marks ≡ any_below (λ e. sound_at s (sender_of n e) && eqb (traced_mark s n e) 1) entries
  unfolding sent_in
  sent-same =
      ap (any_below (sent_at roles marks)) marks-long
      ∙ any_ext (sent_at roles marks) (λ e. sound_at s (sender_of n e) && eqb (traced_mark s n e) 1) entries
      (λ e h. ap₂ (λ (a b : ℕ). eqb a 1 && eqb b 1) (role_same e) (marks-at e h))

  roles_checked : roles_in roles marks ≡ roles_of s n rounds
  unfolding roles_in roles_of
  roles_checked = ap₂ (λ (a b : Bool). refuse_if (a || b) bad_roles_number) strange-same sent-same

  -- what is found in the parts says which refuses
  body-parts :
      (from to : ℕ) → from ≡ start → to ≡ start + entries → {found last x : Check}
      → found ≡ or_next (marks_in (part s from to)) (missing_in (part s from to) (part s to (length s)))
      → last ≡ roles_in roles (part s from to) → x ≡ or_next found last
      → x ≡ first_of (body_of s n rounds)
  unfolding body_of first_of
  body-parts from to f t a c x =
      let same : part s from to ≡ marks = ap₂ (part s) f t in
      let rest : part s to (length s) ≡ readings = ap (λ (k : ℕ). part s k (length s)) t in
      x
      ∙ ap₂ or_next
      (a
      ∙ ap₂ or_next
      (ap marks_in same ∙ marks_checked)
      (ap₂ missing_in same rest ∙ missing_checked
      ∙ sym (next-none (bad_missing (traced_mark s n) (traced_bits s n rounds) entries))))
      (c ∙ ap (roles_in roles) same ∙ roles_checked)
      ∙ sym (first_snoc (array_checks (traced_mark s n) (traced_bits s n rounds) entries) (roles_of s n rounds))

  module _ (from to : ℕ) (first : from ≡ start) (last : to ≡ start + entries) where
    pub entries_refused :
        (r : Refusal) → some r ≡ or_next (marks_in (part s from to)) (missing_in (part s from to) (part s to (length s)))
        → some r ≡ first_of (body_of s n rounds)
    entries_refused r h = body-parts from to first last h refl refl

    pub roles-decide :
        {x : Check} → none ≡ or_next (marks_in (part s from to)) (missing_in (part s from to) (part s to (length s)))
        → x ≡ roles_in roles (part s from to) → x ≡ first_of (body_of s n rounds)
    roles-decide h e = body-parts from to first last h e refl
