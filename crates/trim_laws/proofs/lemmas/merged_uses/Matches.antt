-- The first method of a type that has a name and a signature.
use Rattle.std.proofs.Common.{◌≡◌, ℕ, Bool, true, false, not, ◌&&◌, ◌||◌, List, [], ◌∷◌, Option, Some, None, refl, sym, ap, subst, ◌∙◌}
use Rattle.std.specs.Prelude.{slice_get, if◌then◌else◌}
use Rattle.std.specs.List.{list_any}
use Rattle.std.specs.Option.{option_map, option_and_then}
use Rattle.std.proofs.lemmas.Bool.{and_parts, and_from}
use Rattle.il_base.specs.declared.world_model.known.Known.{Known}
use Rattle.il_base.specs.declared.world_model.known.Known.TheVariants.{Good, Bad}
use Rattle.il_base.specs.declared.world_model.expr.TypeExpr.{TypeExpr}
use Rattle.il_base.specs.declared.world_model.members.MethodDefRow.{MethodDefRow}
use Rattle.il_base.specs.declared.world_model.record.AsmRec.{AsmRec}
use Rattle.il_base.specs.world_model.Core.{same_name}
use Rattle.il_base.specs.world_model.Worlds.{known_then}
use Rattle.rules.specs.declared.link_rules.row_at.RowAt.{RowAt}
use Rattle.rules.specs.declared.link_rules.member_type.MethodType.{MethodType}
use Rattle.rules.specs.link_rules.Types.{at_row}
use Rattle.rules.specs.link_rules.Signatures.{names_at, method_type, subst_method, same_method_type}
use Rattle.rules.specs.link_rules.Members.{args_of, is_compiler_controlled, is_method_type, is_method, method_in, method_of_type}
use Rattle.rules.specs.link_rules.Cycles.{listed, home_of}
use Rattle.rules.specs.type_rules.Rows.{methods_of_type}
use Rattle.rules.specs.type_rules.Slots.{method_row_at, type_of_row}
use Rattle.run_laws.specs.query_laws.Laws.{first_at}
use Rattle.run_laws.proofs.lemmas.query_laws.Slots.{run_is}
use Rattle.merge_laws.proofs.lemmas.merged_references.Scopes.{names_decide}
use Rattle.trim_laws.proofs.lemmas.merged_uses.Signed.{method_only, method_self, none_stands, method_put}

-- ---- the first of a list

pub first_step : (T : RowAt → Bool) (x : RowAt) (xs : List RowAt) (b : Bool) → T x ≡ b → first_at T (x ∷ xs) ≡ (if b then Some x else first_at T xs)
first_step T x xs b e = ap (λ (c : Bool). if c then Some x else first_at T xs) e

passes_by : (T : RowAt → Bool) (x : RowAt) (xs : List RowAt) (y : RowAt) (b : Bool) → T x ≡ b → (first_at T xs ≡ Some y → T y ≡ true) → (if b then Some x else first_at T xs) ≡ Some y → T y ≡ true
passes_by T x xs y true f more g = let same : x ≡ y = cc in subst (λ (z : RowAt). T z ≡ true) same f
passes_by T x xs y false f more g = more g

pub first_passes : (T : RowAt → Bool) (xs : List RowAt) (y : RowAt) → first_at T xs ≡ Some y → T y ≡ true
first_passes T [] y e = absurd (cc)
first_passes T (x ∷ xs) y e = passes_by T x xs y (T x) refl (first_passes T xs y) (sym (first_step T x xs (T x) refl) ∙ e)

sharper_by : (S T : RowAt → Bool) (x : RowAt) (xs : List RowAt) (y : RowAt) → T y ≡ true → (T x ≡ true → S x ≡ true) → (first_at S xs ≡ Some y → first_at T xs ≡ Some y) → (b : Bool) → S x ≡ b → (c : Bool) → T x ≡ c
    → (if b then Some x else first_at S xs) ≡ Some y → first_at T (x ∷ xs) ≡ Some y
sharper_by S T x xs y t more later true f true g h = first_step T x xs true g ∙ h
sharper_by S T x xs y t more later true f false g h =
    let same : x ≡ y = cc in
    let bad : true ≡ false = sym t ∙ ap T (sym same) ∙ g in
    absurd (cc)
sharper_by S T x xs y t more later false f true g h = let bad : true ≡ false = sym (more g) ∙ f in absurd (cc)
sharper_by S T x xs y t more later false f false g h = first_step T x xs false g ∙ later h

-- it is the first of a sharper test too, which it passes
pub first_sharper : (S T : RowAt → Bool) (xs : List RowAt) (y : RowAt) → first_at S xs ≡ Some y → T y ≡ true → ((x : RowAt) → T x ≡ true → S x ≡ true) → first_at T xs ≡ Some y
first_sharper S T [] y e t more = absurd (cc)
first_sharper S T (x ∷ xs) y e t more =
    sharper_by S T x xs y t (more x) (λ h. first_sharper S T xs y h t more) (S x) refl (T x) refl (sym (first_step S x xs (S x) refl) ∙ e)

pub same_tests : (a b : Bool) → (a ≡ true → b ≡ true) → (b ≡ true → a ≡ true) → a ≡ b
same_tests true true f g = refl
same_tests true false f g = sym (f refl)
same_tests false true f g = g refl
same_tests false false f g = refl

-- ---- a test of rows

abbrev pub typed : List TypeExpr → MethodType → Option (Known MethodType) → Bool
typed targs wanted None = false
typed targs wanted (Some m) = is_method_type targs wanted m

abbrev pub row_fits : List ℕ → Bool → MethodDefRow → Bool
row_fits name t m = same_name m.name name && not (is_compiler_controlled m.flags) && t

abbrev pub fits : List AsmRec → List TypeExpr → List ℕ → MethodType → RowAt → Bool
fits recs targs name wanted x = list_any (row_fits name (typed targs wanted (type_of_row recs x))) (listed (method_row_at recs x))

or_none : (b : Bool) → (b || false) ≡ b
or_none true = refl
or_none false = refl

not_so : (b : Bool) → not b ≡ true → b ≡ false
not_so true h = sym h
not_so false h = refl

module _ (recs : List AsmRec) where
  -- ---- in a type's run

  fits_so : (targs : List TypeExpr) (name : List ℕ) (wanted : MethodType) (at : RowAt) (rec : AsmRec) → slice_get recs at.asm ≡ Some rec → (n : ℕ) (m : MethodDefRow) → slice_get rec.method_def n ≡ Some m
      → fits recs targs name wanted (at_row at.asm n) ≡ is_method recs at.asm rec targs name wanted m
  fits_so targs name wanted at rec s n m e =
      ap (λ (o : Option AsmRec). list_any (row_fits name (typed targs wanted (option_and_then (λ (r : AsmRec). option_map (λ (x : MethodDefRow). known_then (method_type (names_at recs at.asm r)) x.signature) (slice_get r.method_def n)) o)))
      (listed (option_and_then (λ (r : AsmRec). slice_get r.method_def n) o))) s
      ∙ ap (λ (o : Option MethodDefRow). list_any (row_fits name (typed targs wanted (option_map (λ (x : MethodDefRow). known_then (method_type (names_at recs at.asm rec)) x.signature) o))) (listed o)) e
      ∙ or_none (is_method recs at.asm rec targs name wanted m)

  found_by : (name : List ℕ) (wanted : MethodType) (e : TypeExpr) (o : Option RowAt)
      → option_and_then (λ (at : RowAt). option_and_then (λ (rec : AsmRec). option_and_then (method_in recs (args_of e) name wanted at rec) (slice_get rec.type_def at.row)) (slice_get recs at.asm)) o
      ≡ option_and_then (λ (at : RowAt). first_at (fits recs (args_of e) name wanted) (methods_of_type recs at)) o
  found_by name wanted e None = refl
  found_by name wanted e (Some at) =
      run_is recs at (λ a rec m. is_method recs a rec (args_of e) name wanted m) (fits recs (args_of e) name wanted) (λ rec s n m is. fits_so (args_of e) name wanted at rec s n m is)

  pub method_is : (name : List ℕ) (wanted : MethodType) (e : TypeExpr) → method_of_type recs name wanted e ≡ option_and_then (λ (at : RowAt). first_at (fits recs (args_of e) name wanted) (methods_of_type recs at)) (home_of recs e)
  unfolding method_of_type
  method_is name wanted e = found_by name wanted e (home_of recs e)

  -- ---- what passes

  pub record Fits (targs : List TypeExpr) (name : List ℕ) (wanted : MethodType) (x : RowAt) : Type 0 where
    pub row : MethodDefRow
    pub there : method_row_at recs x ≡ Some row
    pub named : row.name ≡ name
    pub seen : is_compiler_controlled row.flags ≡ false
    pub type : MethodType
    pub reads : type_of_row recs x ≡ Some (Good type)
    pub same : subst_method targs type ≡ wanted

  module _ (targs : List TypeExpr) (name : List ℕ) (wanted : MethodType) (x : RowAt) where
    by_type : (row : MethodDefRow) → method_row_at recs x ≡ Some row → row.name ≡ name → is_compiler_controlled row.flags ≡ false → (o : Option (Known MethodType)) → type_of_row recs x ≡ o → typed targs wanted o ≡ true → Fits targs name wanted x
    by_type row there named seen None f h = absurd (cc)
    by_type row there named seen (Some (Bad why)) f h = absurd (cc)
    by_type row there named seen (Some (Good t)) f h = record { row = row; there = there; named = named; seen = seen; type = t; reads = f; same = method_only (subst_method targs t) wanted h }

    by_row : (o : Option MethodDefRow) → method_row_at recs x ≡ o → list_any (row_fits name (typed targs wanted (type_of_row recs x))) (listed o) ≡ true → Fits targs name wanted x
    by_row None f h = absurd (cc)
    by_row (Some row) f h =
        let t : Bool = typed targs wanted (type_of_row recs x) in
        let p = and_parts (same_name row.name name && not (is_compiler_controlled row.flags)) t (sym (or_none (row_fits name t row)) ∙ h) in
        let q = and_parts (same_name row.name name) (not (is_compiler_controlled row.flags)) p.0 in
        by_type row f ((names_decide row.name name).0 q.0) (not_so (is_compiler_controlled row.flags) q.1) (type_of_row recs x) refl p.1

    pub fits_from : fits recs targs name wanted x ≡ true → Fits targs name wanted x
    fits_from h = by_row (method_row_at recs x) refl h

    pub to_fits : Fits targs name wanted x → fits recs targs name wanted x ≡ true
    to_fits f =
        let t : typed targs wanted (type_of_row recs x) ≡ true = ap (typed targs wanted) f.reads ∙ ap (λ (a : MethodType). same_method_type a wanted) f.same ∙ method_self wanted in
        let n : same_name f.row.name name ≡ true = (names_decide f.row.name name).1 f.named in
        let all = and_from (same_name f.row.name name && not (is_compiler_controlled f.row.flags)) (typed targs wanted (type_of_row recs x)) (and_from (same_name f.row.name name) (not (is_compiler_controlled f.row.flags)) n (ap not f.seen)) t in
        ap (λ (o : Option MethodDefRow). list_any (row_fits name (typed targs wanted (type_of_row recs x))) (listed o)) f.there
        ∙ or_none (row_fits name (typed targs wanted (type_of_row recs x)) f.row) ∙ all

  -- the first of a name and of a signature with arguments put in is the first with its own signature
  pub first_own : (targs : List TypeExpr) (name : List ℕ) (wanted : MethodType) (xs : List RowAt) (y : RowAt) (f : Fits targs name wanted y) → first_at (fits recs targs name wanted) xs ≡ Some y
      → first_at (fits recs [] f.row.name f.type) xs ≡ Some y
  first_own targs name wanted xs y f h =
      first_sharper (fits recs targs name wanted) (fits recs [] f.row.name f.type) xs y h
      (to_fits [] f.row.name f.type y (record { row = f.row; there = f.there; named = refl; seen = f.seen; type = f.type; reads = f.reads; same = method_put [] none_stands f.type }))
      (λ x e. let g = fits_from [] f.row.name f.type x e in
      let one : g.type ≡ f.type = sym (method_put [] none_stands g.type) ∙ g.same in
      to_fits targs name wanted x (record { row = g.row; there = g.there; named = g.named ∙ f.named; seen = g.seen; type = g.type; reads = g.reads; same = ap (subst_method targs) one ∙ f.same }))
