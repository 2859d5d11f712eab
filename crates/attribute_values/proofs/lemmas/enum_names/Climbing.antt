-- The path of a type, one encloser more at a time.
use Rattle.std.proofs.Common.{◌≡◌, ℕ, suc, List, [], ◌∷◌, ◌++◌, reverse, ◌+◌, ◌-◌, ◌<◌, ◌≤◌, refl, sym, ap, ◌∙◌, append_assoc, arith}
use Rattle.std.specs.Prelude.{Option, Some, None, slice_get}
use Rattle.std.specs.List.{flat_map}
use Rattle.std.proofs.lemmas.List.{append-nil, reverse-append}
use Rattle.il_base.specs.declared.world_model.types.TypeDefRow.{TypeDefRow}
use Rattle.il_base.specs.declared.world_model.record.AsmRec.{AsmRec}
use Rattle.rules.specs.link_rules.Types.{encloser}
use Rattle.rules.specs.link_rules.Cycles.{listed}
use Rattle.rules.specs.type_rules.Texts.{full_name}
use Rattle.rules.specs.mark_rules.Attributes.{path_by, path_within}

one_less : (n i : ℕ) → i < n → n - i ≡ suc (n - (i + 1))
one_less n i h = omega arith

by_row : (rec : AsmRec) (m k : ℕ) (t : TypeDefRow) → slice_get rec.type_def k ≡ Some t → path_within rec (suc m) k ≡ path_by (path_within rec m) rec k t (encloser rec k)
unfolding path_within
by_row rec m k t e = rw e (append-nil (path_by (path_within rec m) rec k t (encloser rec k)))

no_row : (rec : AsmRec) (m k : ℕ) → slice_get rec.type_def k ≡ None → path_within rec (suc m) k ≡ []
unfolding path_within
no_row rec m k e = rw e refl

no_steps : (rec : AsmRec) (k : ℕ) → path_within rec 0 k ≡ []
unfolding path_within
no_steps rec k = refl

module _ (rec : AsmRec) (n i at : ℕ) (inner full : List (List ℕ)) where
  pub start : inner ≡ [] → path_within rec (n - 0) at ++ reverse inner ≡ path_within rec n at
  start e = let z : n - 0 ≡ n = omega arith in rw (z, e) (append-nil (path_within rec n at))

  pub no_type : i < n → slice_get rec.type_def at ≡ None → path_within rec (n - i) at ++ reverse inner ≡ full → [] ++ reverse inner ≡ full
  no_type h e g = ap (λ (p : List (List ℕ)). p ++ reverse inner) (sym (ap (λ (m : ℕ). path_within rec m at) (one_less n i h) ∙ no_row rec (n - (i + 1)) at e)) ∙ g

  pub outermost : (t : TypeDefRow) → i < n → slice_get rec.type_def at ≡ Some t → encloser rec at ≡ None → path_within rec (n - i) at ++ reverse inner ≡ full → (full_name t ∷ []) ++ reverse inner ≡ full
  outermost t h e o g =
      ap (λ (p : List (List ℕ)). p ++ reverse inner) (sym (ap (λ (m : ℕ). path_within rec m at) (one_less n i h) ∙ by_row rec (n - (i + 1)) at t e ∙ ap (path_by (path_within rec (n - (i + 1))) rec at t) o)) ∙ g

  pub nested : (t : TypeDefRow) (around : ℕ) (more : List (List ℕ)) → i < n → slice_get rec.type_def at ≡ Some t → encloser rec at ≡ Some around → more ≡ inner ++ t.name ∷ []
      → path_within rec (n - i) at ++ reverse inner ≡ full → path_within rec (n - (i + 1)) around ++ reverse more ≡ full
  nested t around more h e o m g =
      let outer = path_within rec (n - (i + 1)) around in
      ap (λ (p : List (List ℕ)). outer ++ reverse p) m
      ∙ ap (λ (p : List (List ℕ)). outer ++ p) (reverse-append inner (t.name ∷ []))
      ∙ sym (append_assoc outer (t.name ∷ []) (reverse inner))
      ∙ ap (λ (p : List (List ℕ)). p ++ reverse inner) (sym (ap (λ (m : ℕ). path_within rec m at) (one_less n i h) ∙ by_row rec (n - (i + 1)) at t e ∙ ap (path_by (path_within rec (n - (i + 1))) rec at t) o)) ∙ g

  pub steps_done : n ≤ i → path_within rec (n - i) at ++ reverse inner ≡ full → [] ++ reverse inner ≡ full
  steps_done h g = let z : n - i ≡ 0 = omega arith in ap (λ (p : List (List ℕ)). p ++ reverse inner) (sym (ap (λ (m : ℕ). path_within rec m at) z ∙ no_steps rec at)) ∙ g

-- ---- from inside outwards, turned round

pub one_out : (path put left new full : List (List ℕ)) (name : List ℕ) → left ≡ new ++ name ∷ [] → put ≡ path ++ name ∷ [] → path ++ reverse left ≡ full → put ++ reverse new ≡ full
one_out path put left new full name l p h =
    ap (λ (xs : List (List ℕ)). xs ++ reverse new) p ∙ append_assoc path (name ∷ []) (reverse new)
    ∙ ap (λ (xs : List (List ℕ)). path ++ xs) (sym (ap (λ (xs : List (List ℕ)). reverse xs) l ∙ reverse-append new (name ∷ []))) ∙ h

pub none_left : (path left full : List (List ℕ)) → left ≡ [] → path ++ reverse left ≡ full → path ≡ full
none_left path left full l h = sym (append-nil path) ∙ ap (λ (xs : List (List ℕ)). path ++ reverse xs) (sym l) ∙ h
