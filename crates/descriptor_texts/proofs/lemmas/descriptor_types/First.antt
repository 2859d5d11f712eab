-- The first type of a name.
use Rattle.std.proofs.Common.{◌≡◌, ℕ, suc, ◌+◌, ◌<◌, ◌≤◌, List, [], ◌∷◌, ◌++◌, length, drop, get_or, Bool, true, false, Option, Some, None, refl, sym, ap, ◌∙◌, subst, drop-cons, arith}
use Rattle.std.specs.Prelude.{slice_get, bytes_eq, not, ◌&&◌, if◌then◌else◌}
use Rattle.std.specs.List.{flat_map}
use Rattle.std.specs.Option.{option_map}
use Rattle.std.proofs.Math.ListN.{drop_of_length-le}
use Rattle.std.proofs.lemmas.List.{append-nil}
use Rattle.il_base.specs.declared.world_model.types.TypeDefRow.{TypeDefRow}
use Rattle.il_base.specs.declared.world_model.record.AsmRec.{AsmRec}
use Rattle.rules.specs.declared.link_rules.row_at.RowAt.{RowAt}
use Rattle.rules.specs.link_rules.Types.{at_row, or_else}
use Rattle.rules.specs.link_rules.Cycles.{listed}
use Rattle.rules.specs.type_rules.Rows.{each_from, each_row}
use Rattle.il_base.specs.world_model.Core.{same_name}
use Rattle.rules.specs.mark_rules.Roots.{first_row, type_called, descriptor_type, slashed_name}
use Rattle.descriptor_texts.specs.declared.slashed_names.names.SlashedNames.{SlashedNames}
use Rattle.descriptor_texts.specs.slashed_names.Names.{AreNames, text_in}
use Rattle.descriptor_texts.proofs.lemmas.slashed_names.Naming.{name_at}
use Rattle.descriptor_texts.specs.declared.descriptor_types.rows.TypeRows.{TypeRows}
use Rattle.descriptor_texts.specs.descriptor_types.Rows.{row_if, has_name, first_from, AreTypeRows}

pub or_else-assoc : (a b c : Option ℕ) → or_else (or_else a b) c ≡ or_else a (or_else b c)
or_else-assoc None b c = refl
or_else-assoc (Some x) b c = refl

or_none : (a : Option ℕ) → or_else a None ≡ a
or_none None = refl
or_none (Some x) = refl

-- ---- one type more

module _ (rec : AsmRec) (q : List ℕ) (ts : List TypeDefRow) where
  here : (k : ℕ) (t : TypeDefRow) → k < length ts → t ≡ get_or ts k t → or_else (row_if (has_name rec q k t) k) (first_from rec q (k + 1) (drop (k + 1) ts)) ≡ first_from rec q k (drop k ts)
  here k t below is =
      let n : k + 1 ≡ suc k = omega arith in
      ap (λ (m : ℕ). or_else (row_if (has_name rec q k t) k) (first_from rec q m (drop m ts))) n
      ∙ ap (λ (u : TypeDefRow). or_else (row_if (has_name rec q k u) k) (first_from rec q (suc k) (drop (suc k) ts))) is
      ∙ ap (first_from rec q k) (sym (drop-cons ts k t below))

  pub type_next : (k : ℕ) (t : TypeDefRow) (old new : Option ℕ) → k < length ts → t ≡ get_or ts k t → new ≡ or_else old (row_if (has_name rec q k t) k)
      → or_else new (first_from rec q (k + 1) (drop (k + 1) ts)) ≡ or_else old (first_from rec q k (drop k ts))
  type_next k t old new below is n =
      ap (λ (o : Option ℕ). or_else o (first_from rec q (k + 1) (drop (k + 1) ts))) n
      ∙ or_else-assoc old (row_if (has_name rec q k t) k) (first_from rec q (k + 1) (drop (k + 1) ts))
      ∙ ap (or_else old) (here k t below is)

  pub type_end : (k : ℕ) (found : Option ℕ) → length ts ≤ k → or_else found (first_from rec q k (drop k ts)) ≡ found
  type_end k found done = ap (λ (us : List TypeDefRow). or_else found (first_from rec q k us)) (drop_of_length-le ts done) ∙ or_none found

-- ---- as the definition has it

first_if : (a k : ℕ) (b : Bool) (rows : List RowAt) (rest : Option ℕ) → first_row rows ≡ option_map (at_row a) rest
    → first_row ((if b then at_row a k ∷ [] else []) ++ rows) ≡ option_map (at_row a) (or_else (row_if b k) rest)
first_if a k true rows rest e = refl
first_if a k false rows rest e = e

first_is : (a : ℕ) (rec : AsmRec) (name : List ℕ) (ts : List TypeDefRow) (k : ℕ) → first_row (each_from (type_called a rec name) k ts) ≡ option_map (at_row a) (first_from rec name k ts)
first_is a rec name [] k = refl
first_is a rec name (t ∷ ts) k = first_if a k (has_name rec name k t) (each_from (type_called a rec name) (suc k) ts) (first_from rec name (suc k) ts) (first_is a rec name ts (suc k))

pub type_is : (recs : List AsmRec) (a : ℕ) (name : List ℕ) (rec : AsmRec) → slice_get recs a ≡ Some rec → descriptor_type recs a name ≡ option_map (at_row a) (first_from rec name 0 rec.type_def)
unfolding descriptor_type
type_is recs a name rec here =
    ap (λ (o : Option AsmRec). first_row (flat_map (λ (rec : AsmRec). each_row (type_called a rec name) rec.type_def) (listed o))) here
    ∙ ap first_row (append-nil (each_row (type_called a rec name) rec.type_def)) ∙ first_is a rec name rec.type_def 0

pub no_type : (recs : List AsmRec) (a : ℕ) (name : List ℕ) → slice_get recs a ≡ None → descriptor_type recs a name ≡ None
unfolding descriptor_type
no_type recs a name here = ap (λ (o : Option AsmRec). first_row (flat_map (λ (rec : AsmRec). each_row (type_called a rec name) rec.type_def) (listed o))) here

-- ---- types that are put under their names

pub name_here : (recs : List AsmRec) (s : SlashedNames) (at : RowAt) (rec : AsmRec) → AreNames recs s → slice_get recs at.asm ≡ Some rec → text_in s at ≡ slashed_name rec at.row
name_here recs s at rec are here =
    name_at recs s at are ∙ ap (λ (o : Option AsmRec). flat_map (λ (rec : AsmRec). slashed_name rec at.row) (listed o)) here ∙ append-nil (slashed_name rec at.row)

pub module_kept : (o : Option ℕ) (m s : Bool) (k : ℕ) → m ≡ true → o ≡ or_else o (row_if (not m && s) k)
module_kept None true s k e = refl
module_kept (Some x) true s k e = refl
module_kept o false s k e = absurd (cc)

pub type_put : (old new : Option ℕ) (m : Bool) (name text q : List ℕ) (row k : ℕ) → m ≡ false → name ≡ text → row ≡ k → new ≡ or_else old (row_if (bytes_eq name q) row) → new ≡ or_else old (row_if (not m && same_name text q) k)
type_put old new true name text q row k m e r h = absurd (cc)
type_put old new false name text q row k m e r h =
    h ∙ ap (λ (n : List ℕ). or_else old (row_if (bytes_eq n q) row)) e ∙ ap (λ (j : ℕ). or_else old (row_if (bytes_eq text q) j)) r

-- ---- assemblies

pub no_assembly : (recs : List AsmRec) (asm : ℕ) (rows : TypeRows) → None ≡ slice_get recs asm → (rec : AsmRec) → slice_get recs asm ≡ Some rec → AreTypeRows rec rows
no_assembly recs asm rows none rec here = absurd (cc)

pub assembly_there : (recs : List AsmRec) (asm : ℕ) (rows : TypeRows) (own : AsmRec) → Some own ≡ slice_get recs asm → AreTypeRows own rows → (rec : AsmRec) → slice_get recs asm ≡ Some rec → AreTypeRows rec rows
assembly_there recs asm rows own there are rec here = let same : own ≡ rec = cc in subst (λ (r : AsmRec). AreTypeRows r rows) same are

pub names_there : (s : SlashedNames) (rs recs : List AsmRec) → rs ≡ recs → AreNames recs s → AreNames rs s
names_there s rs recs e are = subst (λ (r : List AsmRec). AreNames r s) (sym e) are
