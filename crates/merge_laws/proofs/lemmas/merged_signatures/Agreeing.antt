-- The tokens of the output name what those of an input do, moved, where the output has the types.
use Rattle.std.proofs.Common.{◌≡◌, ◌<◌, ◌≤◌, ◌+◌, ℕ, suc, List, length, Bool, true, false, Option, Some, None, refl, sym, ap, subst, ◌∙◌, arith, eqb-true}
use Rattle.std.specs.Prelude.{slice_get, ◌==◌, if◌then◌else◌}
use Rattle.std.specs.Option.{option_map, option_and_then}
use Rattle.il_base.specs.declared.ids.TypeId.{TypeId}
use Rattle.il_base.specs.declared.world_model.known.Known.{Known}
use Rattle.il_base.specs.declared.world_model.known.Known.TheVariants.{Good, Bad}
use Rattle.il_base.specs.declared.world_model.known.BadKind.TheVariants.{Unresolved}
use Rattle.il_base.specs.declared.world_model.expr.TypeExpr.{TypeExpr}
use Rattle.il_base.specs.declared.world_model.record.AsmRec.{AsmRec}
use Rattle.il_base.specs.world_model.Tokens.{table_of, row_index, index_in}
use Rattle.il_base.specs.world_model.Worlds.{rows_before, row_below, types_in, type_id, prim_type, known_then, named_in, definition_of, definition_named, found_or_named, modifier_named}
use Rattle.il_base.specs.declared.core_table.types.TheConstants.{TYPE_COUNT}
use Rattle.rules.specs.declared.link_rules.row_at.RowAt.{RowAt}
use Rattle.rules.specs.declared.link_rules.core_type_name.CoreTypeName.{CoreTypeName}
use Rattle.il_base.specs.declared.world_model.types.TypeDefRow.{TypeDefRow}
use Rattle.rules.specs.link_rules.Types.{at_row, same_place, encloser, type_in, ref_definition, definition_at, added_by}
use Rattle.rules.specs.link_rules.Signatures.{definition_expr, known_expr, named_type, names_at, spec_type_at, token_type}
use Rattle.rules.specs.link_rules.Members.{type_home}
use Rattle.base_laws.proofs.lemmas.type_laws.Places.{place_within}
use Rattle.rules.specs.merge_rules.Numbers.{Kept, kept_types}
use Rattle.rules.specs.merge_rules.Order.{Met}
use Rattle.rules.specs.merge_rules.Keys.{number_of, number_or, absent_number, found_or, class_number, modifier_number}
use Rattle.rules.specs.merge_rules.Refs.{type_token, number_token}
use Rattle.rules.specs.change_rules.Change.{Rho}
use Rattle.rules.specs.change_rules.Moves.{move_type, move_expr}
use Rattle.rules.specs.merged_world_rules.Numbering.{CoreRows, new_number}
use Rattle.merge_laws.proofs.lemmas.merged_references.Found.{chained, Names, Added, added_names}
use Rattle.merge_laws.proofs.lemmas.merged_references.Core.{top_level}
use Rattle.merge_laws.proofs.lemmas.merged_references.Joined as joined
use Rattle.merge_laws.proofs.lemmas.merged_references.Joined.{Premises, core_new, added_named}
use Rattle.merge_laws.proofs.lemmas.merged_signatures.Reading.{Agrees, good_then}
use Rattle.merge_laws.proofs.lemmas.merged_signatures.Added.{added_again}
use Rattle.merge_laws.proofs.lemmas.merged_signatures.Keys.{HasType, Key, key_of, of_input, of_core, core_there, home_of_row, one_row}

-- ---- a token that names a definition is none of a signature's

index_table : (table token k : ℕ) (b : Bool) → (table_of token == table) ≡ b → (if b then row_index token else None) ≡ Some k → table_of token ≡ table
index_table table token k true e f = eqb-true (table_of token) table e
index_table table token k false e f = cc

not_spec_by : (recs : List AsmRec) (a : ℕ) (rec : AsmRec) (token : ℕ) (at : RowAt) (b : Bool) → (table_of token == 0x02) ≡ b
    → (if b then option_map (at_row a) (row_below (types_in rec) (index_in 0x02 token)) else option_and_then (ref_definition recs a rec) (index_in 0x01 token)) ≡ Some at
    → (table_of token == 0x1b) ≡ false
not_spec_by recs a rec token at true e f = ap (λ (n : ℕ). n == 0x1b) (eqb-true (table_of token) 0x02 e)
not_spec_by recs a rec token at false e f =
    let c = chained (ref_definition recs a rec) (index_in 0x01 token) at f in
    ap (λ (n : ℕ). n == 0x1b) (index_table 0x01 token c.from (table_of token == 0x01) refl c.is)

not_spec : (recs : List AsmRec) (a : ℕ) (rec : AsmRec) (token : ℕ) (at : RowAt) → definition_at recs a rec token ≡ Some at → (table_of token == 0x1b) ≡ false
unfolding definition_at
not_spec recs a rec token at e = not_spec_by recs a rec token at (table_of token == 0x02) refl e

-- what a good token names
pub record Defines (recs : List AsmRec) (a : ℕ) (rec : AsmRec) (token : ℕ) (e : TypeExpr) : Type 0 where
  pub at : RowAt
  pub is : definition_at recs a rec token ≡ Some at
  pub gives : definition_expr recs at ≡ e

defines_by : (recs : List AsmRec) (a : ℕ) (rec : AsmRec) (token : ℕ) (e : TypeExpr) (o : Option RowAt) → definition_at recs a rec token ≡ o → known_expr recs o ≡ Good e → Defines recs a rec token e
defines_by recs a rec token e None f g = cc
defines_by recs a rec token e (Some at) f g = record { at = at; is = f; gives = cc }

pub defines : (recs : List AsmRec) (a : ℕ) (rec : AsmRec) (token : ℕ) (e : TypeExpr) → named_type recs a rec token ≡ Good e → Defines recs a rec token e
unfolding named_type
defines recs a rec token e g = defines_by recs a rec token e (definition_at recs a rec token) refl g

named_good_by : (k : Known TypeExpr) (e : TypeExpr) (b : Bool) → (if b then Bad Unresolved else k) ≡ Good e → k ≡ Good e
named_good_by k e true f = cc
named_good_by k e false f = f

named_good : (recs : List AsmRec) (a : ℕ) (rec : AsmRec) (token : ℕ) (e : TypeExpr) → named_in (names_at recs a rec).types token ≡ Good e → named_type recs a rec token ≡ Good e
unfolding named_in
named_good recs a rec token e f = named_good_by (named_type recs a rec token) e (table_of token == 0x1b) f

pub good_named : (recs : List AsmRec) (a : ℕ) (rec : AsmRec) (token : ℕ) (e : TypeExpr) → named_type recs a rec token ≡ Good e → named_in (names_at recs a rec).types token ≡ Good e
unfolding named_in
good_named recs a rec token e f =
    let d = defines recs a rec token e f in
    ap (λ (b : Bool). if b then Bad Unresolved else named_type recs a rec token) (not_spec recs a rec token d.at d.is) ∙ f

pub good_token : (recs : List AsmRec) (a : ℕ) (rec : AsmRec) (token : ℕ) (e : TypeExpr) → named_type recs a rec token ≡ Good e → token_type recs a rec token ≡ Good e
unfolding token_type
good_token recs a rec token e f =
    let d = defines recs a rec token e f in
    ap (λ (b : Bool). if b then spec_type_at recs a rec (option_and_then (slice_get rec.type_spec) (index_in 0x1b token)) else named_type recs a rec token) (not_spec recs a rec token d.at d.is) ∙ f

module _ (internal : Bool) (inputs : List AsmRec) (names those : List CoreTypeName) (kept : Kept) (mets : List Met) (left : AsmRec) (p : Premises internal inputs names those kept mets left) (r : Rho)
    (number : (n : ℕ) → r.typ n ≡ new_number types_in (joined.core_to internal inputs names those kept mets left) (joined.recs internal inputs names those kept mets left) (kept_types (joined.recs internal inputs names those kept mets left) kept) n) where
  abbrev recs : List AsmRec
  recs = joined.recs internal inputs names those kept mets left

  abbrev world : List AsmRec
  world = joined.world internal inputs names those kept mets left

  abbrev Has : TypeId → Type 0
  Has t = HasType internal inputs names those kept mets left p r number t

  -- the type of a number
  abbrev pub HasNumber : ℕ → Type 0
  HasNumber n = (t : TypeId) → n ≡ suc t.0 → HasType internal inputs names those kept mets left p r number t

  -- ---- names that modifiers alone find

  abbrev core : AsmRec
  core = joined.core internal inputs names those kept mets left

  abbrev core_after : AsmRec
  core_after = joined.core_after internal inputs names those kept mets left

  abbrev core_to : CoreRows
  core_to = joined.core_to internal inputs names those kept mets left

  abbrev IsIt : RowAt → TypeDefRow → Option ℕ → AsmRec → Type 0
  IsIt at row around rec = (slice_get rec.type_def at.row ≡ Some row) × (same_place (encloser rec at.row) around ≡ true) × (type_in rec around row.namespace row.name ≡ Some at.row)

  one_rec : (x y : AsmRec) (o : Option AsmRec) → o ≡ Some x → o ≡ Some y → x ≡ y
  one_rec x y o e f = let g : Some x ≡ Some y = sym e ∙ f in cc

  top_only : (around : Option ℕ) → same_place None around ≡ true → around ≡ None
  top_only None e = refl
  top_only (Some k) e = cc

  module _ (t : TypeId) (d : Added recs t) where
    is_it : IsIt d.at d.first.row d.first.around core
    is_it =
        let same : d.first.rec ≡ core = one_rec d.first.rec core (slice_get recs d.at.asm) d.first.there (core_there internal inputs names those kept mets left p r number d.at.asm d.last) in
        subst (IsIt d.at d.first.row d.first.around) same (d.first.row_there, d.first.placed, d.first.first)

    by_name : type_in core None d.first.row.namespace d.first.row.name ≡ Some d.at.row
    by_name =
        let none : d.first.around ≡ None = top_only d.first.around (ap (λ (x : Option ℕ). same_place x d.first.around) (sym (top_level names d.at.row)) ∙ is_it.1) in
        ap (λ (x : Option ℕ). type_in core x d.first.row.namespace d.first.row.name) (sym none) ∙ is_it.2

    added_home : type_home recs t ≡ Some d.at
    added_home =
        ap (type_home recs) (sym d.is)
        ∙ home_of_row internal inputs names those kept mets left p r number d.at d.first.rec d.first.there (place_within d.first.rec.type_def d.at.row d.first.row d.first.row_there)

    -- the output's core library has the name, and it is the first there
    again : (s : ℕ) → core_to.to d.at.row ≡ Some s → (TYPE_COUNT ≤ s) × (type_in core_after None d.first.row.namespace d.first.row.name ≡ Some s)
    again s to = added_again names those d.at.row s d.first.row d.behind is_it.0 by_name to

    added_number : (s : ℕ) → core_to.to d.at.row ≡ Some s → type_id world 1 s ≡ move_type r t
    unfolding rows_before
    added_number s to =
        let new : r.typ t.0 ≡ length left.type_def + s = ap (λ (u : TypeId). r.typ u.0) (sym d.is) ∙ core_new internal inputs names those kept mets left p r number t d.at added_home d.last s to in
        ap (λ (k : ℕ). record { 0 = k }) (omega (arith, new))

    added_moved : Has t → added_by world 0 left (type_token (joined.o internal inputs names those kept mets left) t) ≡ Some (move_type r t)
    added_moved (of_input x k home lt new) =
        let same : x ≡ d.at = one_row internal inputs names those kept mets left p r number x d.at (type_home recs t) home added_home in
        let before : suc d.at.asm < length recs = subst (λ (y : RowAt). suc y.asm < length recs) same lt in
        let last = d.last in
        absurd (omega (arith, before, last))
    added_moved (of_core x home last g s to) =
        let same : x ≡ d.at = one_row internal inputs names those kept mets left p r number x d.at (type_home recs t) home added_home in
        let here : core_to.to d.at.row ≡ Some s = subst (λ (y : RowAt). core_to.to y.row ≡ Some s) same to in
        let found = again s here in
        added_named internal inputs names those kept mets left p r number t d.at added_home d.last g s found.0 d.first.row is_it.0 found.1 ∙ ap (λ (u : TypeId). Some u) (added_number s here)

  -- an assembly whose tokens name rows that stand in their tables, and types of the core library's table
  module _ (a : ℕ) (rec : AsmRec) (stand : (token : ℕ) (at : RowAt) → definition_at recs a rec token ≡ Some at → Names recs at) where
    pub record Named (token : ℕ) (e : TypeExpr) : Type 0 where
      pub at : RowAt
      pub gives : definition_expr recs at ≡ e
      pub key : Key internal inputs names those kept mets left p r number at
      pub class : class_number recs a rec token ≡ suc key.t.0

    class_by : (token : ℕ) (e : TypeExpr) (n : ℕ) → named_type recs a rec token ≡ Good e → number_of recs (Good e) ≡ suc n → class_number recs a rec token ≡ suc n
    unfolding class_number
    class_by token e n f g = ap (λ (k : Known TypeExpr). found_or (number_of recs k) (absent_number recs a token)) f ∙ ap (λ (m : ℕ). found_or m (absent_number recs a token)) g

    pub named : (token : ℕ) (e : TypeExpr) → named_type recs a rec token ≡ Good e → Named token e
    named token e f =
        let d = defines recs a rec token e f in
        let k = key_of internal inputs names those kept mets left p r number d.at (stand token d.at d.is) in
        record { at = d.at; gives = d.gives; key = k; class = class_by token e k.t.0 f (ap (λ (x : TypeExpr). number_of recs (Good x)) (sym d.gives) ∙ k.numbered) }

    token_by : (n : ℕ) (t : TypeId) → n ≡ suc t.0 → number_token (joined.o internal inputs names those kept mets left) n ≡ type_token (joined.o internal inputs names those kept mets left) t
    token_by n t e = ap (number_token (joined.o internal inputs names those kept mets left)) e

    names_token : (token : ℕ) (e : TypeExpr) → named_in (names_at recs a rec).types token ≡ Good e → HasNumber (class_number recs a rec token)
        → named_in (names_at world 0 left).types (number_token (joined.o internal inputs names those kept mets left) (class_number recs a rec token)) ≡ Good (move_expr r e)
    names_token token e f w =
        let n = named token e (named_good recs a rec token e f) in
        let t : TypeId = n.key.t in
        ap (named_in (names_at world 0 left).types) (token_by (class_number recs a rec token) t n.class)
        ∙ good_named world 0 left (type_token (joined.o internal inputs names those kept mets left) t) (move_expr r (definition_expr recs n.at)) (n.key.token_names (w t n.class))
        ∙ ap (λ (x : TypeExpr). Good (move_expr r x)) n.gives

    same_type : (x y : TypeId) (k : Known TypeId) → k ≡ Good x → k ≡ Good y → x ≡ y
    same_type x y k e f = let g : Good x ≡ Good y = sym e ∙ f in cc

    defined_token : (token : ℕ) (t : TypeId) → definition_named (names_at recs a rec) token ≡ Good t → HasNumber (class_number recs a rec token)
        → definition_named (names_at world 0 left) (number_token (joined.o internal inputs names those kept mets left) (class_number recs a rec token)) ≡ Good (move_type r t)
    unfolding definition_named
    defined_token token t f w =
        let g = good_then (definition_of (prim_type recs)) (named_in (names_at recs a rec).types token) t f in
        let n = named token g.from (named_good recs a rec token g.from g.is) in
        let same : n.key.t ≡ t = same_type n.key.t t (definition_of (prim_type recs) g.from) (ap (definition_of (prim_type recs)) (sym n.gives) ∙ n.key.defined) g.gives in
        ap (known_then (definition_of (prim_type world))) (names_token token g.from g.is w)
        ∙ ap (λ (x : TypeExpr). definition_of (prim_type world) (move_expr r x)) (sym n.gives) ∙ n.key.moved ∙ ap (λ (u : TypeId). Good (move_type r u)) same

    not_added_token : (token : ℕ) (t : TypeId) → definition_named (names_at recs a rec) token ≡ Good t → HasNumber (class_number recs a rec token)
        → added_by world 0 left (number_token (joined.o internal inputs names those kept mets left) (class_number recs a rec token)) ≡ None
    unfolding definition_named
    not_added_token token t f w =
        let g = good_then (definition_of (prim_type recs)) (named_in (names_at recs a rec).types token) t f in
        let n = named token g.from (named_good recs a rec token g.from g.is) in
        ap (added_by world 0 left) (token_by (class_number recs a rec token) n.key.t n.class) ∙ n.key.none (w n.key.t n.class)

    -- ---- modifiers

    modifies_by : (token : ℕ) (t : TypeId) (o : Option TypeId) → added_by recs a rec token ≡ o → found_or_named o (definition_named (names_at recs a rec) token) ≡ Good t
        → HasNumber (number_or o (class_number recs a rec token))
        → modifier_named (names_at world 0 left) (number_token (joined.o internal inputs names those kept mets left) (number_or o (class_number recs a rec token))) ≡ Good (move_type r t)
    unfolding modifier_named
    modifies_by token t None e f w =
        (λ i. found_or_named (not_added_token token t f w i) (defined_token token t f w i))
    modifies_by token t (Some u) e f w =
        let same : u ≡ t = cc in
        let h : HasType internal inputs names those kept mets left p r number u = w u refl in
        ap (λ (o : Option TypeId). found_or_named o (definition_named (names_at world 0 left) (type_token (joined.o internal inputs names those kept mets left) u))) (added_moved u (added_names recs a rec token u e) h)
        ∙ ap (λ (x : TypeId). Good (move_type r x)) same

    modifies : (token : ℕ) (t : TypeId) → modifier_named (names_at recs a rec) token ≡ Good t → HasNumber (modifier_number recs a rec token)
        → modifier_named (names_at world 0 left) (number_token (joined.o internal inputs names those kept mets left) (modifier_number recs a rec token)) ≡ Good (move_type r t)
    unfolding modifier_named
    modifies token t f w = modifies_by token t (added_by recs a rec token) refl f w

    pub agrees : Agrees (joined.o internal inputs names those kept mets left) recs a rec (names_at recs a rec) (names_at world 0 left) r HasNumber
    agrees = record { named = names_token; defined = defined_token; modifies = modifies }
