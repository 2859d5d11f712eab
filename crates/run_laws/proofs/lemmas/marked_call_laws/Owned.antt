-- A method that is called on a type of the definition that it is of is called on an instance of its interface.
use Rattle.std.proofs.Common.{◌≡◌, ℕ, true, nat_eq, List, [], Option, Some, None, refl, sym, ap, subst, ◌∙◌}
use Rattle.std.specs.Prelude.{IsTrue, slice_get}
use Rattle.std.specs.List.{list_any}
use Rattle.std.specs.Option.{option_map, option_and_then}
use Rattle.std.proofs.lemmas.Bool.{true≢false, eqb-true}
use Rattle.il_base.specs.declared.ids.TypeId.{TypeId}
use Rattle.il_base.specs.declared.world_model.expr.TypeExpr.{TypeExpr, out-TypeExpr, roll-TypeExpr, roll-out-TypeExpr}
use Rattle.il_base.specs.declared.world_model.expr.TypeExpr.TheOpen.{TypeExpr-F}
use Rattle.il_base.specs.declared.world_model.expr.TypeExpr.TheVariants as expr
use Rattle.il_base.specs.declared.world_model.types.TypeDefRow.{TypeDefRow}
use Rattle.il_base.specs.declared.world_model.members.MethodDefRow.{MethodDefRow}
use Rattle.il_base.specs.declared.world_model.record.AsmRec.{AsmRec}
use Rattle.il_base.specs.world_model.Worlds.{type_id}
use Rattle.rules.specs.declared.link_rules.row_at.RowAt.{RowAt}
use Rattle.rules.specs.link_rules.Members.{type_home, home_from, methods_in, owner_in}
use Rattle.rules.specs.link_rules.Cycles.{listed, home_of, is_interface_at, is_interface}
use Rattle.rules.specs.link_rules.Linked.{assemblies, link_fault_of}
use Rattle.rules.specs.type_rules.Slots.{method_row_at, type_of_method}
use Rattle.base_laws.proofs.lemmas.type_laws.Upwards.{out_is, owner_as}
use Rattle.base_laws.proofs.lemmas.type_laws.Ways.{arrays}
use Rattle.rules.specs.step_rules.Closing.{plain}
use Rattle.il_base.specs.declared.cil_values.definition.Method.{Method}
use Rattle.rules.specs.view_rules.Methods.{method_by, method_at, method_query}
use Rattle.rules.specs.change_rules.Keeps.{definition_passes}
use Rattle.run_laws.proofs.lemmas.dispatch_laws.There.{IsTypeThere, owner_there}
use Rattle.run_laws.proofs.lemmas.marked_laws.Places.{type_home_of}
use Rattle.rules.specs.change_rules.Keeps.{is_of}
use Rattle.run_laws.specs.marked_call_laws.Laws.{IsOwned}
use Rattle.run_laws.proofs.lemmas.marked_call_laws.Core.{prim_class}
use Rattle.run_laws.proofs.lemmas.marked_call_laws.Made.{parts, plain_def, plain_inst}

module _ (recs : List AsmRec) where
  -- ---- the row of a type by its number

  home_in : (x : RowAt) (t : TypeDefRow) (o : Option AsmRec) → slice_get recs x.asm ≡ o → option_and_then (λ (rec : AsmRec). slice_get rec.type_def x.row) o ≡ Some t → type_home recs (type_id recs x.asm x.row) ≡ Some x
  home_in x t None s e = absurd (cc)
  home_in x t (Some rec) s e = type_home_of recs x rec s t e

  home_is : (x : RowAt) → IsTypeThere recs x → type_home recs (type_id recs x.asm x.row) ≡ Some x
  home_is x t = home_in x t.0 (slice_get recs x.asm) refl t.1

  -- ---- what the query says of a method

  record Asked (m : ℕ) (x : RowAt) : Type 0 where
    answer : Method
    is : method_query recs m ≡ Some answer
    owner : answer.owner ≡ (type_id recs x.asm x.row).0

  asked_by : (m : ℕ) (at x : RowAt) (d : MethodDefRow) (o : Option AsmRec) → home_from methods_in 0 recs m ≡ Some at → slice_get recs at.asm ≡ o → option_and_then (λ (rec : AsmRec). slice_get rec.method_def at.row) o ≡ Some d
      → type_of_method recs at ≡ Some x → Asked m x
  unfolding method_query
  asked_by m at x d None h s e of = absurd (cc)
  asked_by m at x d (Some rec) h s e of = record {
    answer = method_by recs at rec d x;
    is = ap (option_and_then (method_at recs)) h
        ∙ ap (option_and_then (λ (r : AsmRec). option_and_then (λ (f : MethodDefRow). option_map (method_by recs at r f) (type_of_method recs at)) (slice_get r.method_def at.row))) s
        ∙ ap (option_and_then (λ (f : MethodDefRow). option_map (method_by recs at rec f) (type_of_method recs at))) e
        ∙ ap (option_map (method_by recs at rec d)) of;
    owner = refl;
  }

  asked : (m : ℕ) (at x : RowAt) (d : MethodDefRow) → home_from methods_in 0 recs m ≡ Some at → method_row_at recs at ≡ Some d → type_of_method recs at ≡ Some x → Asked m x
  asked m at x d h e of = asked_by m at x d (slice_get recs at.asm) h refl e of

  -- ---- an interface of a definition

  id_same : (n : ℕ) (t : TypeId) (x : RowAt) → n ≡ (type_id recs x.asm x.row).0 → IsTrue (nat_eq n t.0) → type_home recs (type_id recs x.asm x.row) ≡ Some x → type_home recs t ≡ Some x
  id_same n t x e h home =
      let same : t.0 ≡ (type_id recs x.asm x.row).0 = sym (eqb-true n t.0 h) ∙ e in
      ap (λ (k : ℕ). type_home recs (record { 0 = k })) same ∙ home

  unowned : (e : TypeExpr) (y : TypeExpr-F TypeExpr) → roll-TypeExpr y ≡ e → owner_in recs y ≡ None → is_interface recs e ≡ true → ⊥
  unfolding is_interface
  unowned e y is none h =
      let f = ap (λ (o : Option TypeId). list_any (is_interface_at recs) (listed (option_and_then (type_home recs) o))) (owner_as recs [] y e is ∙ none) in
      true≢false (sym h ∙ f)

module _ (inputs : List AsmRec) (sound : link_fault_of inputs ≡ None) where
  abbrev recs_of : List AsmRec
  recs_of = assemblies inputs

  abbrev Home : RowAt → Type 0
  Home x = type_home recs_of (type_id recs_of x.asm x.row) ≡ Some x

  home_by : (n : ℕ) (x : RowAt) → n ≡ (type_id recs_of x.asm x.row).0 → Home x → (e : TypeExpr) (y : TypeExpr-F TypeExpr) → roll-TypeExpr y ≡ e → IsTrue (is_of n e) → is_interface recs_of e ≡ true → home_of recs_of e ≡ Some x
  home_by n x number home e (TypeExpr-F.Prim p) is h i = absurd (true≢false (sym i ∙ ap (is_interface recs_of) (sym is ∙ expr.rolls-Prim p) ∙ prim_class inputs p))
  home_by n x number home e (TypeExpr-F.Def t) is h i =
      let f : out-TypeExpr (plain e) ≡ TypeExpr-F.Def t =
      ap (λ (z : TypeExpr). out-TypeExpr (plain z)) (sym is ∙ expr.rolls-Def t) ∙ ap out-TypeExpr (plain_def t) ∙ out_is (TypeExpr-F.Def t) (expr.Def t) (expr.rolls-Def t) in
      let same : IsTrue (nat_eq n t.0) = subst (λ (z : TypeExpr-F TypeExpr). IsTrue (definition_passes (nat_eq n) z)) f h in
      ap (option_and_then (type_home recs_of)) (owner_as recs_of [] (TypeExpr-F.Def t) e is) ∙ id_same recs_of n t x number same home
  home_by n x number home e (TypeExpr-F.Inst t args) is h i =
      let f : out-TypeExpr (plain e) ≡ TypeExpr-F.Inst t (parts args) =
      ap (λ (z : TypeExpr). out-TypeExpr (plain z)) (sym is ∙ expr.rolls-Inst t args) ∙ ap out-TypeExpr (plain_inst t args)
      ∙ out_is (TypeExpr-F.Inst t (parts args)) (expr.Inst t (parts args)) (expr.rolls-Inst t (parts args)) in
      let same : IsTrue (nat_eq n t.0) = subst (λ (z : TypeExpr-F TypeExpr). IsTrue (definition_passes (nat_eq n) z)) f h in
      ap (option_and_then (type_home recs_of)) (owner_as recs_of [] (TypeExpr-F.Inst t args) e is) ∙ id_same recs_of n t x number same home
  home_by n x number home e (TypeExpr-F.Array y) is h i = absurd (true≢false (sym i ∙ ap (is_interface recs_of) (sym is ∙ expr.rolls-Array y) ∙ arrays inputs sound y))
  home_by n x number home e (TypeExpr-F.ByRef y) is h i = absurd (unowned recs_of e (TypeExpr-F.ByRef y) is refl i)
  home_by n x number home e (TypeExpr-F.Var v) is h i = absurd (unowned recs_of e (TypeExpr-F.Var v) is refl i)
  home_by n x number home e (TypeExpr-F.MVar v) is h i = absurd (unowned recs_of e (TypeExpr-F.MVar v) is refl i)
  home_by n x number home e (TypeExpr-F.Mod required by y) is h i = absurd (unowned recs_of e (TypeExpr-F.Mod required by y) is refl i)

  pub owner_home : (owner : TypeExpr) (m : ℕ) (at x : RowAt) (d : MethodDefRow) → IsOwned recs_of owner m → home_from methods_in 0 recs_of m ≡ Some at → method_row_at recs_of at ≡ Some d → type_of_method recs_of at ≡ Some x
      → is_interface recs_of owner ≡ true → home_of recs_of owner ≡ Some x
  owner_home owner m at x d owned h e of i =
      let a = asked recs_of m at x d h e of in
      home_by a.answer.owner x a.owner (home_is recs_of x (owner_there recs_of at x of)) owner (out-TypeExpr owner) (roll-out-TypeExpr owner) (owned a.answer a.is) i
