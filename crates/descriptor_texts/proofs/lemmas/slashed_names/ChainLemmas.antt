-- The names of nested types, one more at a time.
use Rattle.std.proofs.Common.{◌≡◌, ℕ, suc, List, [], ◌∷◌, ◌++◌, codes, true, false, Option, Some, None, ◌+◌, ◌-◌, ◌<◌, ◌≤◌, refl, sym, ap, ◌∙◌, append_assoc, arith}
use Rattle.std.specs.Prelude.{slice_get}
use Rattle.std.specs.List.{flat_map}
use Rattle.std.specs.Option.{is_some}
use Rattle.std.proofs.lemmas.List.{append-nil}
use Rattle.il_base.specs.declared.world_model.types.TypeDefRow.{TypeDefRow}
use Rattle.il_base.specs.declared.world_model.record.AsmRec.{AsmRec}
use Rattle.rules.specs.link_rules.Types.{encloser}
use Rattle.rules.specs.link_rules.Cycles.{listed}
use Rattle.rules.specs.type_rules.Texts.{full_name}
use Rattle.rules.specs.mark_rules.Roots.{slashed_by, slashed_within}
use Rattle.descriptor_texts.specs.slashed_names.Chains.{bare_or_none, own_or_none, bare_name, own_name, inner_name, inner_names}

pub inner_push : (rec : AsmRec) (ks : List ℕ) (k : ℕ) → inner_names rec (ks ++ k ∷ []) ≡ inner_name rec k ++ inner_names rec ks
unfolding inner_names
inner_push rec [] k = simp append-nil
inner_push rec (j ∷ ks) k = ap (λ (t : List ℕ). t ++ inner_name rec j) (inner_push rec ks k) ∙ append_assoc (inner_name rec k) (inner_names rec ks) (inner_name rec j)

-- a name put after `/`, which is 47
pub more_put : (rec : AsmRec) (out signed put full left new : List ℕ) (row : ℕ) → left ≡ new ++ row ∷ [] → signed ≡ out ++ 47 ∷ [] → put ≡ signed ++ bare_name rec row → out ++ inner_names rec left ≡ full → put ++ inner_names rec new ≡ full
more_put rec out signed put full left new row l s p h = rw (p, s) (simp append_assoc (rw (l, inner_push rec new row) at h))

pub none_inner : (rec : AsmRec) (name inner : List ℕ) → inner ≡ [] → name ++ inner_names rec inner ≡ name
unfolding inner_names
none_inner rec name inner h = rw h (append-nil name)

pub none_left : (rec : AsmRec) (out left full : List ℕ) → left ≡ [] → out ++ inner_names rec left ≡ full → out ≡ full
none_left rec out left full l h = sym (none_inner rec out left l) ∙ h

-- ---- one level

own_of : (outer : ℕ → List ℕ) (t : Option TypeDefRow) → flat_map (λ (t : TypeDefRow). slashed_by outer t None) (listed t) ≡ own_or_none t
own_of outer None = refl
own_of outer (Some t) = append-nil (full_name t)

inner_of : (outer : ℕ → List ℕ) (around : ℕ) (t : Option TypeDefRow) → is_some t ≡ true → flat_map (λ (t : TypeDefRow). slashed_by outer t (Some around)) (listed t) ≡ outer around ++ (codes "/" ++ bare_or_none t)
inner_of outer around None h = absurd (cc)
inner_of outer around (Some t) h = append-nil ((outer around ++ codes "/") ++ t.name) ∙ append_assoc (outer around) (codes "/") t.name

none_of : (outer : ℕ → List ℕ) (e : Option ℕ) (t : Option TypeDefRow) → is_some t ≡ false → flat_map (λ (t : TypeDefRow). slashed_by outer t e) (listed t) ≡ []
none_of outer e None h = refl
none_of outer e (Some t) h = absurd (cc)

by_encloser : (rec : AsmRec) (n k : ℕ) (e : Option ℕ) → encloser rec k ≡ e → slashed_within rec (suc n) k ≡ flat_map (λ (t : TypeDefRow). slashed_by (slashed_within rec n) t e) (listed (slice_get rec.type_def k))
unfolding slashed_within
by_encloser rec n k e h = ap (λ (e : Option ℕ). flat_map (λ (t : TypeDefRow). slashed_by (slashed_within rec n) t e) (listed (slice_get rec.type_def k))) h

one_less : (n i : ℕ) → i < n → n - i ≡ suc (n - (i + 1))
one_less n i h = omega arith

here : (rec : AsmRec) (n i at : ℕ) (e : Option ℕ) → i < n → encloser rec at ≡ e → slashed_within rec (n - i) at ≡ flat_map (λ (t : TypeDefRow). slashed_by (slashed_within rec (n - (i + 1))) t e) (listed (slice_get rec.type_def at))
here rec n i at e below h = ap (λ (m : ℕ). slashed_within rec m at) (one_less n i below) ∙ by_encloser rec (n - (i + 1)) at e h

with_inner : (rec : AsmRec) (a b inner full : List ℕ) → a ≡ b → a ++ inner_names rec inner ≡ full → b ++ inner_names rec inner ≡ full
with_inner rec a b inner full e h = ap (λ (x : List ℕ). x ++ inner_names rec inner) (sym e) ∙ h

-- ---- a chain

pub start : (rec : AsmRec) (n m k : ℕ) (inner : List ℕ) → n ≡ 1 + m → inner ≡ [] → slashed_within rec (n - 0) k ++ inner_names rec inner ≡ slashed_within rec (suc m) k
start rec n m k inner e h =
    let z : n - 0 ≡ suc m = omega arith in
    none_inner rec (slashed_within rec (n - 0) k) inner h ∙ ap (λ (n : ℕ). slashed_within rec n k) z

pub not_there : (rec : AsmRec) (n i at : ℕ) (inner full : List ℕ) → i < n → is_some (slice_get rec.type_def at) ≡ false → slashed_within rec (n - i) at ++ inner_names rec inner ≡ full → inner_names rec inner ≡ full
not_there rec n i at inner full below h g =
    with_inner rec (slashed_within rec (n - i) at) [] inner full
    (here rec n i at (encloser rec at) below refl ∙ none_of (slashed_within rec (n - (i + 1))) (encloser rec at) (slice_get rec.type_def at) h) g

pub not_nested : (rec : AsmRec) (n i at : ℕ) (inner full : List ℕ) → i < n → None ≡ encloser rec at → slashed_within rec (n - i) at ++ inner_names rec inner ≡ full → own_name rec at ++ inner_names rec inner ≡ full
not_nested rec n i at inner full below e g =
    with_inner rec (slashed_within rec (n - i) at) (own_name rec at) inner full
    (here rec n i at None below (sym e) ∙ own_of (slashed_within rec (n - (i + 1))) (slice_get rec.type_def at)) g

pub nested : (rec : AsmRec) (n i at around : ℕ) (inner more full : List ℕ) → i < n → is_some (slice_get rec.type_def at) ≡ true → Some around ≡ encloser rec at → more ≡ inner ++ at ∷ []
    → slashed_within rec (n - i) at ++ inner_names rec inner ≡ full → slashed_within rec (n - (i + 1)) around ++ inner_names rec more ≡ full
nested rec n i at around inner more full below there e m g =
    ap (λ (ks : List ℕ). slashed_within rec (n - (i + 1)) around ++ inner_names rec ks) m
    ∙ ap (λ (x : List ℕ). slashed_within rec (n - (i + 1)) around ++ x) (inner_push rec inner at)
    ∙ sym (append_assoc (slashed_within rec (n - (i + 1)) around) (inner_name rec at) (inner_names rec inner))
    ∙ with_inner rec (slashed_within rec (n - i) at) (slashed_within rec (n - (i + 1)) around ++ inner_name rec at) inner full
    (here rec n i at (Some around) below (sym e) ∙ inner_of (slashed_within rec (n - (i + 1))) around (slice_get rec.type_def at) there) g

-- no step is left
pub no_step : (rec : AsmRec) (n i at : ℕ) (inner full : List ℕ) → n ≤ i → slashed_within rec (n - i) at ++ inner_names rec inner ≡ full → inner_names rec inner ≡ full
unfolding slashed_within
no_step rec n i at inner full done g =
    let z : n - i ≡ 0 = omega arith in
    with_inner rec (slashed_within rec (n - i) at) [] inner full (ap (λ (m : ℕ). slashed_within rec m at) z) g
