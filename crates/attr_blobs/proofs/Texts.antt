-- Reading texts byte by byte.
use Rattle.std.proofs.Common.{◌≡◌, ◌<◌, ◌≤◌, ◌+◌, ◌-◌, ℕ, suc, List, [], ◌∷◌, Option, Some, None, Ok, Err, length, get_or, drop, refl, ap, sym, subst, ◌∙◌, arith, length-drop}
use Rattle.std.proofs.lemmas.List.{drop-drop}
use Rattle.attr_blobs.specs.declared.text.Expect.{Expect}
use Rattle.attr_blobs.specs.Texts.{Read, go_on, behind_text, expected}
use Rattle.attr_blobs.proofs.Names.{from, from_is}

counted : (n i : ℕ) → i < n → n - i ≡ suc (n - (i + 1))
counted n i h = omega arith

below : (n i : ℕ) → n - i - 1 ≡ n - (i + 1)
below n i = omega arith

pub text_cut : (n i : ℕ) (e : Expect) (rest : List ℕ) (total : Read (List ℕ)) → i < n → length rest < 1 → behind_text (n - i) e rest ≡ total → total ≡ Err 0
unfolding behind_text
text_cut n i e [] total h l so = sym so ∙ rw (counted n i h) refl
text_cut n i e (b ∷ bs) total h l so = absurd (omega arith)

text_step : (n i : ℕ) (e : Expect) (rest : List ℕ) (total : Read (List ℕ)) → i < n → 1 ≤ length rest → behind_text (n - i) e rest ≡ total →
    go_on rest (λ next. behind_text (n - (i + 1)) next (drop 1 rest)) (expected e (n - i - 1) (get_or rest 0 0)) ≡ total
unfolding behind_text
text_step n i e [] total h l so = absurd (omega arith)
text_step n i e (b ∷ bs) total h l so =
    let k : behind_text (suc (n - (i + 1))) e (b ∷ bs) ≡ total = subst (λ (v : ℕ). behind_text v e (b ∷ bs) ≡ total) (counted n i h) so in
    subst (λ (v : ℕ). go_on (b ∷ bs) (λ next. behind_text (n - (i + 1)) next bs) (expected e v b) ≡ total) (sym (below n i)) k

pub text_bad : (n i : ℕ) (e : Expect) (rest : List ℕ) (total : Read (List ℕ)) → i < n → 1 ≤ length rest → None ≡ expected e (n - i - 1) (get_or rest 0 0) → behind_text (n - i) e rest ≡ total → total ≡ Err (length rest)
text_bad n i e rest total h l x so =
    sym (subst (λ (v : Option Expect). go_on rest (λ next. behind_text (n - (i + 1)) next (drop 1 rest)) v ≡ total) (sym x) (text_step n i e rest total h l so))

pub text_on : (n i : ℕ) (e next : Expect) (rest : List ℕ) (total : Read (List ℕ)) → i < n → 1 ≤ length rest → Some next ≡ expected e (n - i - 1) (get_or rest 0 0) → behind_text (n - i) e rest ≡ total →
    behind_text (n - (i + 1)) next (from 1 rest) ≡ total
text_on n i e next rest total h l x so =
    ap (λ v. behind_text (n - (i + 1)) next v) (from_is 1 rest)
    ∙ subst (λ (v : Option Expect). go_on rest (λ next. behind_text (n - (i + 1)) next (drop 1 rest)) v ≡ total) (sym x) (text_step n i e rest total h l so)

pub text_done : (n i : ℕ) (e : Expect) (rest : List ℕ) (total : Read (List ℕ)) → n ≤ i → behind_text (n - i) e rest ≡ total → total ≡ Ok rest
unfolding behind_text
text_done n i e rest total h so = let k : n - i ≡ 0 = omega arith in sym so ∙ rw k refl

pub rest_on : (bytes rest : List ℕ) (i : ℕ) → rest ≡ drop i bytes → from 1 rest ≡ drop (i + 1) bytes
rest_on bytes rest i e = from_is 1 rest ∙ ap (λ (v : List ℕ). drop 1 v) e ∙ drop-drop 1 i bytes

pub rest_within : (bytes rest : List ℕ) (i : ℕ) → rest ≡ drop i bytes → 1 ≤ length rest → i + 1 ≤ length bytes
rest_within bytes rest i e l = let k : 1 ≤ length (drop i bytes) = subst (λ (v : List ℕ). 1 ≤ length v) e l in omega (arith, length-drop i bytes)
