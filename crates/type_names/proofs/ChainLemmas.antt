-- The names of nested types, one more at a time, and the namespace of the outermost.
use Rattle.std.proofs.Common.{◌≡◌, ℕ, suc, List, [], ◌∷◌, ◌++◌, Option, Some, None, slice_get, ◌+◌, ◌-◌, ◌<◌, ◌≤◌, refl, sym, ap, ◌∙◌, append_assoc, arith}
use Rattle.std.proofs.lemmas.List.{append-nil}
use Rattle.il_base.specs.declared.world_model.types.TypeDefRow.{TypeDefRow}
use Rattle.il_base.specs.declared.world_model.record.AsmRec.{AsmRec}
use Rattle.rules.specs.link_rules.Types.{encloser}
use Rattle.rules.specs.type_rules.Texts.{part_or_none, row_name}
use Rattle.rules.specs.type_rules.Labels.{own_name as bare_or_none, own_space, row_space}
use Rattle.type_names.specs.Chains.{bare_name, own_name, inner_name, inner_names}

pub inner_push : (rec : AsmRec) (ks : List ℕ) (k : ℕ) → inner_names rec (ks ++ k ∷ []) ≡ inner_name rec k ++ inner_names rec ks
unfolding inner_names
inner_push rec [] k = simp append-nil
inner_push rec (j ∷ ks) k = ap (λ (t : List ℕ). t ++ inner_name rec j) (inner_push rec ks k) ∙ append_assoc (inner_name rec k) (inner_names rec ks) (inner_name rec j)

-- a name put after `+`, which is 43
pub more_put : (rec : AsmRec) (out signed put full left new : List ℕ) (row : ℕ) → left ≡ new ++ row ∷ [] → signed ≡ out ++ 43 ∷ [] → put ≡ signed ++ bare_name rec row → out ++ inner_names rec left ≡ full → put ++ inner_names rec new ≡ full
more_put rec out signed put full left new row l s p h = rw (p, s) (simp append_assoc (rw (l, inner_push rec new row) at h))

pub none_inner : (rec : AsmRec) (name inner : List ℕ) → inner ≡ [] → name ++ inner_names rec inner ≡ name
unfolding inner_names
none_inner rec name inner h = rw h (append-nil name)

pub start : (rec : AsmRec) (n m k : ℕ) (inner : List ℕ) → n ≡ m → inner ≡ [] → row_name rec (n - 0) k ++ inner_names rec inner ≡ row_name rec m k
start rec n m k inner e h = let z : n - 0 ≡ m = omega arith in rw z (none_inner rec (row_name rec m k) inner h)

one_less : (n i : ℕ) → i < n → n - i ≡ suc (n - (i + 1))
one_less n i h = omega arith

pub not_nested : (rec : AsmRec) (n i at : ℕ) (inner full : List ℕ) → i < n → None ≡ encloser rec at → row_name rec (n - i) at ++ inner_names rec inner ≡ full → own_name rec at ++ inner_names rec inner ≡ full
unfolding row_name
not_nested rec n i at inner full h e g = rw (one_less n i h, ← e) at g

-- a nested type's name has no namespace, whichever type encloses it
bare_is : (around : ℕ) (t : Option TypeDefRow) → part_or_none (Some around) t ≡ bare_or_none t
bare_is around None = refl
bare_is around (Some t) = refl

pub nested : (rec : AsmRec) (n i at around : ℕ) (inner more full : List ℕ) → i < n → Some around ≡ encloser rec at → more ≡ inner ++ at ∷ [] → row_name rec (n - i) at ++ inner_names rec inner ≡ full → row_name rec (n - (i + 1)) around ++ inner_names rec more ≡ full
unfolding row_name
nested rec n i at around inner more full h e m g =
    rw (m, inner_push rec inner at) (simp append_assoc at (rw (one_less n i h, ← e, bare_is around (slice_get rec.type_def at)) at g))

pub none_left : (rec : AsmRec) (out left full : List ℕ) → left ≡ [] → out ++ inner_names rec left ≡ full → out ≡ full
none_left rec out left full l h = sym (none_inner rec out left l) ∙ h

-- ---- the namespace

pub outermost : (rec one : AsmRec) (n i at : ℕ) (found full : List ℕ) → i < n → one ≡ rec → None ≡ encloser rec at → found ≡ own_space (slice_get one.type_def at) → row_space rec (n - i) at ≡ full → found ≡ full
unfolding row_space
outermost rec one n i at found full h s e f g = f ∙ ap (λ (r : AsmRec). own_space (slice_get r.type_def at)) s ∙ (rw (one_less n i h, ← e) at g)

pub outwards : (rec : AsmRec) (n i at around : ℕ) (full : List ℕ) → i < n → Some around ≡ encloser rec at → row_space rec (n - i) at ≡ full → row_space rec (n - (i + 1)) around ≡ full
unfolding row_space
outwards rec n i at around full h e g = rw (one_less n i h, ← e) at g

pub in_circle : (rec : AsmRec) (n i at : ℕ) (found full : List ℕ) → n ≤ i → found ≡ [] → row_space rec (n - i) at ≡ full → found ≡ full
unfolding row_space
in_circle rec n i at found full h f g = let z : n - i ≡ 0 = omega arith in f ∙ (rw z at g)
