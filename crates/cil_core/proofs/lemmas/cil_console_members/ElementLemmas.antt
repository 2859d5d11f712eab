-- Elements that are made of bytes, one after the other.
use Rattle.std.proofs.Common.{◌≡◌, ◌∙◌, refl, sym, ap, ℕ, zero, suc, ◌+◌, ◌-◌, ◌*◌, ◌<◌, ◌≤◌, List, [], ◌∷◌, ◌++◌, length, drop, append_assoc, append-nil, length-drop, arith}
use Rattle.std.specs.Prelude.{pos}
use Rattle.std.proofs.Math.Nat.{add-mul}
use Rattle.byteorder.specs.Endian.{little_number}
use Rattle.il_base.specs.declared.cil_values.value.Value.{Value}
use Rattle.rules.specs.step_rules.Integers.{number, width_of}
use Rattle.rules.specs.step_rules.CoreArrays.{elements_of}

split_off : (rest w : ℕ) → 0 < rest → rest * w ≡ (rest - 1) * w + w
split_off rest w h =
    let e : rest ≡ (rest - 1) + 1 = omega arith in
    let one : 1 * w ≡ w = omega arith in
    ap (λ (x : ℕ). x * w) e ∙ add-mul (rest - 1) 1 w ∙ ap (λ (x : ℕ). (rest - 1) * w + x) one

pub front_fits : (rest w m : ℕ) → 0 < rest → rest * w ≤ m → w ≤ m
front_fits rest w m h k = omega (arith, split_off rest w h)

pub rest_fits : (rest w v : ℕ) (bs : List ℕ) → 0 < rest → v ≡ w → rest * w ≤ length bs → (rest - 1) * w ≤ length (drop v bs)
rest_fits rest w v bs h e k = omega (arith, split_off rest w h, length-drop v bs)

opened : (code n : ℕ) (bs : List ℕ) → elements_of code (suc n) bs ≡ number code (pos (little_number (width_of code) bs)) ∷ elements_of code n (drop (width_of code) bs)
unfolding elements_of
opened code n bs = refl

pub one_more : (code rest v : ℕ) (bs : List ℕ) (cells : List Value) (x : Value) → 0 < rest → v ≡ width_of code → x ≡ number code (pos (little_number (width_of code) bs))
    → (cells ++ x ∷ []) ++ elements_of code (rest - 1) (drop v bs) ≡ cells ++ elements_of code rest bs
one_more code rest v bs cells x h e k =
    let n : rest ≡ suc (rest - 1) = omega arith in
    append_assoc cells (x ∷ []) (elements_of code (rest - 1) (drop v bs))
    ∙ ap (λ (w : ℕ). cells ++ x ∷ elements_of code (rest - 1) (drop w bs)) e
    ∙ ap (λ (y : Value). cells ++ y ∷ elements_of code (rest - 1) (drop (width_of code) bs)) k
    ∙ ap (λ (ys : List Value). cells ++ ys) (sym (ap (λ (m : ℕ). elements_of code m bs) n ∙ opened code (rest - 1) bs))

pub none_left : (code rest : ℕ) (bs : List ℕ) (cells : List Value) → rest ≤ 0 → cells ++ elements_of code rest bs ≡ cells
unfolding elements_of
none_left code zero bs cells h = append-nil cells
none_left code (suc n) bs cells h = absurd (omega (arith, h))
