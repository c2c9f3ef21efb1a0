-- One more item that is written behind a space.
use Rattle.std.proofs.Common.{◌≡◌, ℕ, ◌+◌, ◌<◌, List, [], ◌∷◌, ◌++◌, length, get_or, take, Option, None, Some, IfSome, Result, IsOk, codes, refl, sym, ◌∙◌, ap, append_assoc, append-nil}
use Rattle.std.proofs.lemmas.List.{take_more}
use Rattle.std.proofs.Output.{has_written_append}
use Rattle.std.specs.Fmt.{DisplaysOnOk, HasWritten, option_append}
use Rattle.std.specs.declared.fmt.Error.{Error}
use Rattle.std.specs.declared.fmt.Formatter.{Formatter}
use Rattle.vectors.specs.Texts.{spaced_text}

append-parts : (o p q : Option (List ℕ)) → option_append o (option_append p q) ≡ option_append (option_append o p) q
append-parts None p q = refl
append-parts (Some a) None q = refl
append-parts (Some a) (Some b) None = refl
append-parts (Some a) (Some b) (Some c) = ap (λ (l : List ℕ). Some l) (sym (append_assoc a b c))

alone : (o : Option (List ℕ)) → option_append o (Some []) ≡ option_append (Some []) o
alone None = refl
alone (Some a) = ap (λ (l : List ℕ). Some l) (append-nil a)

spaced-more : {T : Type 0} (text : T → Option (List ℕ)) (xs : List T) (x : T)
    → spaced_text text (xs ++ x ∷ []) ≡ option_append (spaced_text text xs) (option_append (Some (codes " ")) (text x))
spaced-more text [] x = alone (option_append (Some (codes " ")) (text x))
spaced-more text (y ∷ ys) x =
    ap (λ (o : Option (List ℕ)). option_append (option_append (Some (codes " ")) (text y)) o) (spaced-more text ys x)
    ∙ append-parts (option_append (Some (codes " ")) (text y)) (spaced_text text ys) (option_append (Some (codes " ")) (text x))

both : {W : Type 0} (took : W → List ℕ → W → Type 0) (f g h : Formatter W) (r : Result (Unit {0}) Error) (o p : Option (List ℕ)) → IsOk r
    → IfSome o (λ bs. HasWritten took f bs g) → DisplaysOnOk took g r p h → IfSome (option_append o p) (λ bs. HasWritten took f bs h)
both took f g h r None p ok x y = tt
both took f g h r (Some a) None ok x y = tt
both took f g h r (Some a) (Some b) ok x y = has_written_append took f a g b h x (y x.plain ok)

-- where the text of the first items was written, and an item behind a space is written then, so is that of one more
pub spaced_goes_on : {T W : Type 0} (text : T → Option (List ℕ)) (took : W → List ℕ → W → Type 0) (xs : List T) (i : ℕ) (x : T)
    (f g h : Formatter W) (r : Result (Unit {0}) Error) → i < length xs → x ≡ get_or xs i x → IsOk r
    → IfSome (spaced_text text (take i xs)) (λ bs. HasWritten took f bs g)
    → DisplaysOnOk took g r (option_append (Some (codes " ")) (text x)) h
    → IfSome (spaced_text text (take (i + 1) xs)) (λ bs. HasWritten took f bs h)
spaced_goes_on text took xs i x f g h r below is ok before now =
    let split : take (i + 1) xs ≡ take i xs ++ x ∷ [] = take_more xs i x below ∙ ap (λ y. take i xs ++ y ∷ []) (sym is) in
    rw (split, spaced-more text (take i xs) x) (both took f g h r (spaced_text text (take i xs)) (option_append (Some (codes " ")) (text x)) ok before now)
