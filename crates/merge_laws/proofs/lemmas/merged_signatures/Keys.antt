-- What a definition is as a number in a signature, and what that number's token names in the world of the output.
use Rattle.std.proofs.Common.{◌≡◌, ◌<◌, ◌≤◌, ◌+◌, ◌-◌, ℕ, zero, suc, List, [], ◌∷◌, ◌++◌, length, cond, Bool, true, false, Option, Some, None, refl, sym, ap, subst, ◌∙◌, not, arith, eq-eqb, eqb-true}
use Rattle.std.specs.Prelude.{slice_get, position, nat_lt, ◌==◌, if◌then◌else◌}
use Rattle.std.specs.List.{list_any, position_or_len}
use Rattle.std.specs.Option.{option_map, option_and_then}
use Rattle.std.proofs.lemmas.Bool.{or_left, or_right}
use Rattle.std.proofs.lemmas.List.{length-append}
use Rattle.il_base.specs.declared.ids.TypeId.{TypeId}
use Rattle.il_base.specs.declared.world_model.known.Known.TheVariants.{Good}
use Rattle.il_base.specs.declared.world_model.expr.TypeExpr.{TypeExpr}
use Rattle.il_base.specs.declared.world_model.expr.TypeExpr as expr
use Rattle.il_base.specs.declared.world_model.types.TypeDefRow.{TypeDefRow}
use Rattle.il_base.specs.declared.world_model.record.AsmRec.{AsmRec}
use Rattle.il_base.specs.world_model.Core.{is_code}
use Rattle.il_base.specs.world_model.Worlds.{rows_before, types_in, type_id, core_types, prim_of, is_code_of, prim_type, known_type, definition_of}
use Rattle.il_base.specs.declared.core_table.types.TheConstants.{TYPE_COUNT}
use Rattle.rules.specs.declared.link_rules.row_at.RowAt.{RowAt}
use Rattle.rules.specs.declared.link_rules.core_type_name.CoreTypeName.{CoreTypeName}
use Rattle.rules.specs.link_rules.Types.{at_row, added_by}
use Rattle.rules.specs.link_rules.Signatures.{prim_at, definition_expr, named_type}
use Rattle.rules.specs.link_rules.Members.{type_home}
use Rattle.base_laws.proofs.lemmas.type_laws.Within.{In}
use Rattle.base_laws.proofs.lemmas.type_laws.Places.{home_at, place_has}
use Rattle.rules.specs.merge_rules.Numbers.{Kept, kept_types, new_row}
use Rattle.rules.specs.merge_rules.Order.{Met}
use Rattle.rules.specs.merge_rules.Keys.{number_of}
use Rattle.rules.specs.merge_rules.Refs.{Output, type_refs, type_token}
use Rattle.rules.specs.change_rules.Change.{Rho}
use Rattle.rules.specs.change_rules.Moves.{move_type, move_expr}
use Rattle.base_laws.proofs.lemmas.change_laws.Exprs.{move_prim, move_def}
use Rattle.rules.specs.merged_world_rules.Numbering.{new_number}
use Rattle.merge_laws.proofs.lemmas.merged_references.Lists.{Placed, placed}
use Rattle.merge_laws.proofs.lemmas.merged_references.Found.{Names}
use Rattle.merge_laws.proofs.lemmas.merged_references.Core.{table_row, in_table}
use Rattle.merge_laws.proofs.lemmas.merged_references.Numbers.{core_types_are, core_prim}
use Rattle.merge_laws.proofs.lemmas.merged_references.Joined as joined
use Rattle.merge_laws.proofs.lemmas.merged_references.Joined.{Premises, table_stays, input_named, core_named, core_new, input_not_added, core_not_added}

-- ---- the first that passes

any_at : {A : Type 0} (p : A → Bool) (xs : List A) (k : ℕ) (x : A) → slice_get xs k ≡ Some x → p x ≡ true → list_any p xs ≡ true
any_at p [] k x e t = cc
any_at p (y ∷ xs) zero x e t = let same : y ≡ x = cc in or_left (p y) (list_any p xs) (ap p same ∙ t)
any_at p (y ∷ xs) (suc k) x e t = or_right (p y) (list_any p xs) (any_at p xs k x e t)

not_behind_by : (n k : ℕ) (b : Bool) → (b ≡ false → n ≤ k) → cond (not b) (1 + n) 0 ≤ suc k
not_behind_by n k true h = omega arith
not_behind_by n k false h = let le : n ≤ k = h refl in omega arith

not_behind : {A : Type 0} (p : A → Bool) (xs : List A) (k : ℕ) (x : A) → slice_get xs k ≡ Some x → p x ≡ true → position_or_len p xs ≤ k
not_behind p [] k x e t = cc
not_behind p (y ∷ xs) zero x e t =
    let same : y ≡ x = cc in
    subst (λ (b : Bool). cond (not b) (1 + position_or_len p xs) 0 ≤ 0) (sym (ap p same ∙ t)) (omega arith)
not_behind p (y ∷ xs) (suc k) x e t = not_behind_by (position_or_len p xs) k (p y) (λ f. not_behind p xs k x e t)

placed_len : (n k : ℕ) (b : Bool) → cond b (Some n) None ≡ Some k → n ≡ k
placed_len n k true e = cc
placed_len n k false e = cc

code_is : (n : ℕ) (o : Option ℕ) → is_code n o ≡ true → o ≡ Some n
code_is n None e = cc
code_is n (Some m) e = ap (λ (k : ℕ). Some k) (eqb-true m n e)

last_by : (recs : List AsmRec) (at : RowAt) (n : ℕ) (b : Bool) (o : Option ℕ) → (suc at.asm == length recs) ≡ b → (if b then o else None) ≡ Some n → suc at.asm ≡ length recs
last_by recs at n true o e f = eqb-true (suc at.asm) (length recs) e
last_by recs at n false o e f = cc

prim_last : (recs : List AsmRec) (at : RowAt) (n : ℕ) → prim_at recs at ≡ Some n → suc at.asm ≡ length recs
prim_last recs at n e = last_by recs at n (suc at.asm == length recs) (option_and_then prim_of (slice_get (core_types recs) at.row)) refl e

last_is : {A : Type 0} (xs : List A) (x : A) → slice_get (xs ++ x ∷ []) (length xs) ≡ Some x
last_is [] x = refl
last_is (y ∷ xs) x = last_is xs x

one_rec : (x y : AsmRec) (o : Option AsmRec) → o ≡ Some x → o ≡ Some y → x ≡ y
one_rec x y o e f = let g : Some x ≡ Some y = sym e ∙ f in cc

-- ---- as types

def_number : (recs : List AsmRec) (t : TypeId) → number_of recs (Good (expr.Def t)) ≡ suc t.0
unfolding expr.out-TypeExpr denote.Hole.Carrier.out
def_number recs t = refl

prim_number : (recs : List AsmRec) (n : ℕ) (t : TypeId) → prim_type recs n ≡ Some t → number_of recs (Good (expr.Prim n)) ≡ suc t.0
unfolding expr.out-TypeExpr denote.Hole.Carrier.out
prim_number recs n t e = ap (λ (o : Option TypeId). elim o as (λ o. ℕ) [ Some t ↦ suc t.0 | None ↦ 0 ]) e

def_defined : (f : ℕ → Option TypeId) (t : TypeId) → definition_of f (expr.Def t) ≡ Good t
unfolding definition_of expr.out-TypeExpr denote.Hole.Carrier.out
def_defined f t = refl

prim_defined : (f : ℕ → Option TypeId) (n : ℕ) (t : TypeId) → f n ≡ Some t → definition_of f (expr.Prim n) ≡ Good t
unfolding definition_of expr.out-TypeExpr denote.Hole.Carrier.out
prim_defined f n t e = ap known_type e

module _ (internal : Bool) (inputs : List AsmRec) (names those : List CoreTypeName) (kept : Kept) (mets : List Met) (left : AsmRec) (p : Premises internal inputs names those kept mets left) (r : Rho)
    (number : (n : ℕ) → r.typ n ≡ new_number types_in (joined.core_to internal inputs names those kept mets left) (joined.recs internal inputs names those kept mets left) (kept_types (joined.recs internal inputs names those kept mets left) kept) n) where
  abbrev core : AsmRec
  core = joined.core internal inputs names those kept mets left

  abbrev core_after : AsmRec
  core_after = joined.core_after internal inputs names those kept mets left

  abbrev pub recs : List AsmRec
  recs = joined.recs internal inputs names those kept mets left

  abbrev pub o : Output
  o = joined.o internal inputs names those kept mets left

  abbrev pub world : List AsmRec
  world = joined.world internal inputs names those kept mets left

  long : length recs ≡ suc (length inputs)
  long = length-append inputs (core ∷ []) ∙ omega arith

  -- a type that the output has
  pub data HasType (t : TypeId) : Type 0 where
    of_input : (at : RowAt) (k : ℕ) → type_home recs t ≡ Some at → suc at.asm < length recs → new_row (kept_types recs kept) at ≡ Some k → HasType t
    of_core : (at : RowAt) → type_home recs t ≡ Some at → suc at.asm ≡ length recs → In t (type_refs recs mets) → (s : ℕ) → (joined.core_to internal inputs names those kept mets left).to at.row ≡ Some s → HasType t

  pub one_row : (x y : RowAt) (o : Option RowAt) → o ≡ Some x → o ≡ Some y → x ≡ y
  one_row x y o e f = let g : Some x ≡ Some y = sym e ∙ f in cc

  module _ (t : TypeId) (at : RowAt) (home : type_home recs t ≡ Some at) (listed : suc at.asm ≡ length recs → at.row < TYPE_COUNT) where
    pub has_named : HasType t → named_type world 0 left (type_token o t) ≡ Good (move_expr r (definition_expr recs at))
    has_named (of_input x k h lt new) =
        let same : x ≡ at = one_row x at (type_home recs t) h home in
        subst (λ (y : RowAt). named_type world 0 left (type_token o t) ≡ Good (move_expr r (definition_expr recs y))) same (input_named internal inputs names those kept mets left p r number t x h lt k new)
    has_named (of_core x h last g s to) =
        let same : x ≡ at = one_row x at (type_home recs t) h home in
        let end : suc at.asm ≡ length recs = subst (λ (y : RowAt). suc y.asm ≡ length recs) same last in
        core_named internal inputs names those kept mets left p r number t at home end g (listed end)

    pub has_not_added : HasType t → added_by world 0 left (type_token o t) ≡ None
    has_not_added (of_input x k h lt new) = input_not_added internal inputs names those kept mets left p r number t x h lt k new
    has_not_added (of_core x h last g s to) =
        let same : x ≡ at = one_row x at (type_home recs t) h home in
        let end : suc at.asm ≡ length recs = subst (λ (y : RowAt). suc y.asm ≡ length recs) same last in
        core_not_added internal inputs names those kept mets left p r number t at home end g (listed end)

  -- the number of a definition, and what its token names
  pub record Key (at : RowAt) : Type 0 where
    pub t : TypeId
    pub numbered : number_of recs (Good (definition_expr recs at)) ≡ suc t.0
    pub defined : definition_of (prim_type recs) (definition_expr recs at) ≡ Good t
    pub token_names : HasType t → named_type world 0 left (type_token o t) ≡ Good (move_expr r (definition_expr recs at))
    pub moved : definition_of (prim_type world) (move_expr r (definition_expr recs at)) ≡ Good (move_type r t)
    pub none : HasType t → added_by world 0 left (type_token o t) ≡ None

  pub home_of_row : (at : RowAt) (rec : AsmRec) → slice_get recs at.asm ≡ Some rec → at.row < length rec.type_def → type_home recs (type_id recs at.asm at.row) ≡ Some at
  home_of_row at rec e lt = home_at recs 0 at.asm at.row rec e lt ∙ ap (λ (a : ℕ). Some (at_row a at.row)) (omega arith)

  def_is : (at : RowAt) → prim_at recs at ≡ None → definition_expr recs at ≡ expr.Def (type_id recs at.asm at.row)
  unfolding definition_expr
  def_is at e = ap (λ (o : Option ℕ). elim o as (λ o. TypeExpr) [ Some n ↦ expr.Prim n | None ↦ expr.Def (type_id recs at.asm at.row) ]) e

  module _ (at : RowAt) (n : Names recs at) where
    plain_key : prim_at recs at ≡ None → Key at
    plain_key e =
        let t : TypeId = type_id recs at.asm at.row in
        let is : definition_expr recs at ≡ expr.Def t = def_is at e in
        let home : type_home recs t ≡ Some at = home_of_row at n.stands.rec n.stands.there n.stands.below in
        record {
          t = t;
          numbered = ap (λ (x : TypeExpr). number_of recs (Good x)) is ∙ def_number recs t;
          defined = ap (definition_of (prim_type recs)) is ∙ def_defined (prim_type recs) t;
          token_names = has_named t at home n.listed;
          moved = ap (λ (x : TypeExpr). definition_of (prim_type world) (move_expr r x)) is ∙ ap (definition_of (prim_type world)) (move_def r t) ∙ def_defined (prim_type world) (move_type r t);
          none = has_not_added t at home n.listed;
        }

  prim_is : (at : RowAt) (n : ℕ) → prim_at recs at ≡ Some n → definition_expr recs at ≡ expr.Prim n
  unfolding definition_expr
  prim_is at n e = ap (λ (o : Option ℕ). elim o as (λ o. TypeExpr) [ Some n ↦ expr.Prim n | None ↦ expr.Def (type_id recs at.asm at.row) ]) e

  pub core_there : (a : ℕ) → suc a ≡ length recs → slice_get recs a ≡ Some core
  core_there a e =
      let same : length inputs ≡ a = omega (arith, e, long) in
      subst (λ (b : ℕ). slice_get recs b ≡ Some core) same (last_is inputs core)

  module _ (at : RowAt) (n : ℕ) (e : prim_at recs at ≡ Some n) (row : TypeDefRow) (there : slice_get core.type_def at.row ≡ Some row) (listed : at.row < TYPE_COUNT) where
    last : suc at.asm ≡ length recs
    last = prim_last recs at n e

    passes : is_code_of n row ≡ true
    passes =
        let f : prim_of row ≡ Some n = sym (ap (option_and_then prim_of) there) ∙ sym (core_prim inputs core core_after left r at last) ∙ e in
        ap (is_code n) f ∙ eq-eqb n n refl

    place : Placed (is_code_of n) core.type_def
    place = placed (is_code_of n) core.type_def (any_at (is_code_of n) core.type_def at.row row there passes)

    abbrev first_at : RowAt
    first_at = at_row (length recs - 1) place.index

    first_last : suc (length recs - 1) ≡ length recs
    first_last = omega (arith, long)

    first_below : place.index ≤ at.row
    first_below =
        let le : position_or_len (is_code_of n) core.type_def ≤ at.row = not_behind (is_code_of n) core.type_def at.row row there passes in
        let is : position_or_len (is_code_of n) core.type_def ≡ place.index =
        placed_len (position_or_len (is_code_of n) core.type_def) place.index (nat_lt (position_or_len (is_code_of n) core.type_def) (length core.type_def)) place.is in
        omega (arith, le, is)

    abbrev first_type : TypeId
    first_type = type_id recs (length recs - 1) place.index

    prim_before : prim_type recs n ≡ Some first_type
    unfolding prim_type
    prim_before =
        ap (λ (rows : List TypeDefRow). option_map (λ k. type_id recs (length recs - 1) k) (position (is_code_of n) rows)) (core_types_are inputs core)
        ∙ ap (option_map (λ k. type_id recs (length recs - 1) k)) place.is

    place_listed : place.index < TYPE_COUNT
    place_listed = let le = first_below in omega (arith, le, listed)

    one_item : (x y : TypeDefRow) (o : Option TypeDefRow) → o ≡ Some x → o ≡ Some y → x ≡ y
    one_item x y o f g = let h : Some x ≡ Some y = sym f ∙ g in cc

    -- rows of the table are those of both core libraries
    row_after : (k : ℕ) (x : TypeDefRow) → k < TYPE_COUNT → slice_get core.type_def k ≡ Some x → slice_get core_after.type_def k ≡ Some x
    row_after k x lt f = let i = in_table names k lt in table_row those k x (i.there ∙ ap (λ (y : TypeDefRow). Some y) (one_item i.row x (slice_get core.type_def k) i.here f))

    row_before : (k : ℕ) (x : TypeDefRow) → k < TYPE_COUNT → slice_get core_after.type_def k ≡ Some x → slice_get core.type_def k ≡ Some x
    row_before k x lt f = let i = in_table those k lt in table_row names k x (i.there ∙ ap (λ (y : TypeDefRow). Some y) (one_item i.row x (slice_get core_after.type_def k) i.here f))

    place_after : Placed (is_code_of n) core_after.type_def
    place_after = placed (is_code_of n) core_after.type_def (any_at (is_code_of n) core_after.type_def at.row row (row_after at.row row listed there) passes)

    same_place : place_after.index ≡ place.index
    same_place =
        let a : position_or_len (is_code_of n) core.type_def ≡ place.index =
        placed_len (position_or_len (is_code_of n) core.type_def) place.index (nat_lt (position_or_len (is_code_of n) core.type_def) (length core.type_def)) place.is in
        let b : position_or_len (is_code_of n) core_after.type_def ≡ place_after.index =
        placed_len (position_or_len (is_code_of n) core_after.type_def) place_after.index (nat_lt (position_or_len (is_code_of n) core_after.type_def) (length core_after.type_def)) place_after.is in
        let l = place_listed in
        let c : position_or_len (is_code_of n) core_after.type_def ≤ place.index = not_behind (is_code_of n) core_after.type_def place.index place.item (row_after place.index place.item l place.there) place.passes in
        let m : place_after.index < TYPE_COUNT = omega (arith, b, c, l) in
        let d : position_or_len (is_code_of n) core.type_def ≤ place_after.index = not_behind (is_code_of n) core.type_def place_after.index place_after.item (row_before place_after.index place_after.item m place_after.there) place_after.passes in
        omega (arith, a, b, c, d)

    prim_after : prim_type world n ≡ Some (type_id world 1 place.index)
    unfolding prim_type core_types
    prim_after = ap (option_map (λ k. type_id world 1 k)) (place_after.is ∙ ap (λ (k : ℕ). Some k) same_place)

    first_home : type_home recs first_type ≡ Some first_at
    first_home = home_of_row first_at core (core_there (length recs - 1) first_last) place.below

    first_prim : prim_at recs first_at ≡ Some n
    first_prim = core_prim inputs core core_after left r first_at first_last ∙ ap (option_and_then prim_of) place.there ∙ code_is n (prim_of place.item) place.passes

    first_listed : suc (length recs - 1) ≡ length recs → place.index < TYPE_COUNT
    first_listed l = let le = first_below in omega (arith, le, listed)

    moved_number : type_id world 1 place.index ≡ move_type r first_type
    unfolding rows_before
    moved_number =
        let new : r.typ first_type.0 ≡ length left.type_def + place.index = core_new internal inputs names those kept mets left p r number first_type first_at first_home first_last place.index (table_stays names those place.index place_listed) in
        ap (λ (k : ℕ). record { 0 = k }) (omega (arith, new))

    prim_key : Key at
    prim_key = record {
      t = first_type;
      numbered = ap (λ (x : TypeExpr). number_of recs (Good x)) (prim_is at n e) ∙ prim_number recs n first_type prim_before;
      defined = ap (definition_of (prim_type recs)) (prim_is at n e) ∙ prim_defined (prim_type recs) n first_type prim_before;
      token_names = λ h. has_named first_type first_at first_home first_listed h ∙ ap (λ (x : TypeExpr). Good (move_expr r x)) (prim_is first_at n first_prim ∙ sym (prim_is at n e));
      moved = ap (λ (x : TypeExpr). definition_of (prim_type world) (move_expr r x)) (prim_is at n e) ∙ ap (definition_of (prim_type world)) (move_prim r n)
          ∙ prim_defined (prim_type world) n (type_id world 1 place.index) prim_after ∙ ap Good moved_number;
      none = has_not_added first_type first_at first_home first_listed;
    }

  key_by : (at : RowAt) → Names recs at → (o : Option ℕ) → prim_at recs at ≡ o → Key at
  key_by at n None e = plain_key at n e
  key_by at n (Some k) e =
      let last : suc at.asm ≡ length recs = prim_last recs at k e in
      let same : n.stands.rec ≡ core = one_rec n.stands.rec core (slice_get recs at.asm) n.stands.there (core_there at.asm last) in
      let below : at.row < length core.type_def = subst (λ (x : AsmRec). at.row < length x.type_def) same n.stands.below in
      let row = place_has core.type_def at.row below in
      prim_key at k e row.0 row.1 (n.listed last)

  pub key_of : (at : RowAt) → Names recs at → Key at
  key_of at n = key_by at n (prim_at recs at) refl
