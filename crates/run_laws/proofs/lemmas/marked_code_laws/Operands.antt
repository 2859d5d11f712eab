-- What the instructions of a marked method name is kept, as each form asks for it.
use Rattle.std.proofs.Common.{◌≡◌, ℕ, Bool, true, false, List, [], ◌∷◌, Option, Some, inl, inr, refl, sym, ap, subst, ◌∙◌}
use Rattle.std.specs.Prelude.{ℤ, IsTrue, slice_get, ◌==◌, ◌&&◌, ◌||◌, not, if◌then◌else◌}
use Rattle.std.specs.List.{list_all, flat_map}
use Rattle.std.proofs.lemmas.Bool.{and_from}
use Rattle.il_base.specs.declared.body.Form.{Form}
use Rattle.il_base.specs.declared.body.Form.TheVariants as form
use Rattle.il_base.specs.declared.body.Operand.{Operand}
use Rattle.il_base.specs.declared.body.Operand.TheVariants as operand
use Rattle.il_base.specs.declared.ids.TypeId.{TypeId}
use Rattle.il_base.specs.declared.ids.MethodId.{MethodId}
use Rattle.il_base.specs.declared.ids.FieldId.{FieldId}
use Rattle.il_base.specs.declared.ids.Item.{Item}
use Rattle.il_base.specs.declared.ids.Item.TheVariants as item
use Rattle.il_base.specs.declared.opcode.TheConstants.{CONSTRAINED}
use Rattle.il_base.specs.declared.world_model.known.Known.{Known}
use Rattle.il_base.specs.declared.world_model.known.Known.TheVariants.{Good, Bad}
use Rattle.il_base.specs.declared.world_model.expr.TypeExpr.{TypeExpr}
use Rattle.il_base.specs.declared.world_model.expr.MethodUse.{MethodUse}
use Rattle.il_base.specs.declared.world_model.expr.FieldUse.{FieldUse}
use Rattle.il_base.specs.declared.world_model.record.AsmRec.{AsmRec}
use Rattle.il_base.specs.world_model.Worlds.{known_map}
use Rattle.rules.specs.declared.link_rules.row_at.RowAt.{RowAt}
use Rattle.rules.specs.link_rules.Signatures.{token_type}
use Rattle.rules.specs.link_rules.Members.{owner_of}
use Rattle.rules.specs.link_rules.Cycles.{listed}
use Rattle.base_laws.proofs.lemmas.type_laws.Within.{In, in_front, in_behind, listed_in}
use Rattle.descriptor_file.specs.declared.root.Root.{Root}
use Rattle.rules.specs.mark_rules.Facts.{Fact}
use Rattle.rules.specs.mark_rules.Facts.Fact.{marked, instantiated, shown}
use Rattle.rules.specs.mark_rules.Naming.{Named, Part, of_known, of_named, of_expr, of_exprs, types_in, type_token_part, method_token_part, field_token_part, method_named, field_named}
use Rattle.rules.specs.mark_rules.Naming.Named.{type, method, field}
use Rattle.rules.specs.mark_rules.Bodies.{is_field_token, is_method_token, operand_parts}
use Rattle.rules.specs.mark_rules.Shown.{arguments_in, definitions_in, arguments_of_part, arguments_of_parts, parts_of_item, showing_parts, shown_by_item, known_types, made_types, shown_by}
use Rattle.rules.specs.mark_rules.Calls.{makes_type, makes_by}
use Rattle.il_base.specs.declared.cil_values.resolved.Use.{Use}
use Rattle.il_base.specs.declared.cil_values.resolved.Use.TheVariants as use_of
use Rattle.rules.specs.view_rules.Methods.{method_query, field_query}
use Rattle.rules.specs.view_rules.Answers.{queries_of}
use Rattle.rules.specs.view_rules.Code.{use_by}
use Rattle.rules.specs.change_rules.Change.{Keep}
use Rattle.rules.specs.change_rules.Keeps.{keeps_expr, shows_expr, news_expr, begins_expr, can_call, keeps_use, is_of_owner, if_good, keeps_called, is_static, keeps_accessed, keeps_operand, keeps_of_form}
use Rattle.run_laws.specs.marked_laws.Flags.{is_added, HasMarks, keep_of}
use Rattle.run_laws.proofs.lemmas.marked_laws.Closing.{mapped_in, in_arguments_of, item_gives_shown}
use Rattle.run_laws.proofs.lemmas.marked_laws.Named.{kept_by_parts, arguments_are_types, shown_by_parts, all_are_types}
use Rattle.run_laws.proofs.lemmas.marked_laws.Flags.{typ_is, shown_is, method_is, field_is, made_is}
use Rattle.run_laws.proofs.lemmas.marked_laws.Parts.{HasParts, part_marks, part_kept}
use Rattle.run_laws.specs.marked_code_laws.Laws.{MethodsApart, FieldsApart}
use Rattle.run_laws.proofs.lemmas.marked_code_laws.Uses.{MethodIn, method_in_owner, FieldIn, field_in_owner}
use Rattle.run_laws.proofs.lemmas.marked_code_laws.Begins.{owner_passes, method_begins_type, field_begins_type, static_row, called_owned}
use Rattle.run_laws.proofs.lemmas.marked_code_laws.Shown.{shows_by}

pub all_of : {A : Type 0} (p : A → Bool) (xs : List A) → ((x : A) → In x xs → IsTrue (p x)) → IsTrue (list_all p xs)
all_of p [] h = refl
all_of p (x ∷ xs) h = and_from (p x) (list_all p xs) (h x (inl refl)) (all_of p xs (λ y i. h y (inr i)))

in_some : {A B : Type 0} (f : A → List B) (x : A) (xs : List A) (y : B) → In x xs → In y (f x) → In y (flat_map f xs)
in_some f x [] y h i = absurd h
in_some f x (z ∷ xs) y (inl e) i = in_front y (f z) (flat_map f xs) (subst (λ a. In y (f a)) e i)
in_some f x (z ∷ xs) y (inr h) i = in_behind y (f z) (flat_map f xs) (in_some f x xs y h i)

-- what the instructions among its operands show
abbrev pub shown_op : List AsmRec → ℕ → AsmRec → ℕ → Form → Operand → List TypeId
shown_op recs a rec opcode f (operand.Token token) = shown_by recs a rec opcode f token
shown_op recs a rec opcode f _ = []

module _ (recs : List AsmRec) (entry : Option RowAt) (roots : List Root) (has : Fact → Bool) (m : HasMarks recs entry roots has) (methods : MethodsApart recs) (fields : FieldsApart recs) where
  abbrev k : Keep
  k = keep_of recs has

  -- ---- what a part of an item names, by what it shows

  module _ (i : Item) (at : RowAt) (whole : HasParts recs entry roots has m i at) (p : Part) (in_parts : In p (parts_of_item recs i at)) (in_showing : In p (showing_parts recs i at)) where
    marks : (n : Named) (f : Fact) → p.named ≡ Good n → In f (of_named n) → IsTrue (has f)
    marks n f is g = part_marks recs entry roots has m i at whole p n f in_parts is g

    shows : (n : Named) (t : TypeId) → p.named ≡ Good n → In t (arguments_of_part (Good n)) → IsTrue (has (shown t))
    shows n t is g =
        item_gives_shown recs entry roots has m i at t whole.marks whole.is
        (in_front t (arguments_of_parts (showing_parts recs i at)) (shown_by_item recs i at) (in_arguments_of (showing_parts recs i at) p n t in_showing is g))

    type_kept : (e : TypeExpr) → p.named ≡ Good (type e) → IsTrue (keeps_expr k e)
    type_kept e is = part_kept recs entry roots has m i at whole p e in_parts in_showing is

    type_shown : (e : TypeExpr) → p.named ≡ Good (type e) → ((t : TypeId) → In t (definitions_in e) → IsTrue (has (shown t))) → IsTrue (shows_expr k e)
    type_shown e is d =
        shows_by recs has e (λ t g. marks (type e) (marked (item.Typ t)) is (mapped_in (λ t. marked (item.Typ t)) t (types_in e) g)) d (λ t g. shows (type e) t is g)

    -- ---- a method with its owner and arguments

    module _ (u : MethodUse) (is : p.named ≡ Good (method u)) where
      owner_marked : (t : TypeId) → In t (types_in u.owner) → IsTrue (has (marked (item.Typ t)))
      owner_marked t g = marks (method u) (marked (item.Typ t)) is (inr (in_front _ (of_expr u.owner) (of_exprs u.args) (mapped_in (λ t. marked (item.Typ t)) t (types_in u.owner) g)))

      owner_argument : (t : TypeId) → In t (arguments_in u.owner) → IsTrue (has (shown t))
      owner_argument t g = shows (method u) t is (in_front t (arguments_in u.owner) (flat_map types_in u.args) g)

      owner_kept : IsTrue (keeps_expr k u.owner)
      owner_kept =
          kept_by_parts k u.owner (λ t g. typ_is recs has t (owner_marked t g)) (λ t g. shown_is recs has t (owner_marked t (arguments_are_types k u.owner t g)) (owner_argument t g))

      arg_marked : (e : TypeExpr) → In e u.args → (t : TypeId) → In t (types_in e) → IsTrue (has (marked (item.Typ t)))
      arg_marked e j t g =
          marks (method u) (marked (item.Typ t)) is (inr (in_behind _ (of_expr u.owner) (of_exprs u.args) (in_some of_expr e u.args (marked (item.Typ t)) j (mapped_in (λ t. marked (item.Typ t)) t (types_in e) g))))

      arg_fact : (e : TypeExpr) → In e u.args → (t : TypeId) → In t (types_in e) → IsTrue (has (shown t))
      arg_fact e j t g = shows (method u) t is (in_behind t (arguments_in u.owner) (flat_map types_in u.args) (in_some types_in e u.args t j g))

      arg_shown : (e : TypeExpr) → In e u.args → IsTrue (shows_expr k e)
      arg_shown e j =
          shown_by_parts k e (λ t g. typ_is recs has t (arg_marked e j t g)) (λ t g. let h = all_are_types k e t g in shown_is recs has t (arg_marked e j t h) (arg_fact e j t h))

      method_marked : IsTrue (has (marked (item.Method u.method)))
      method_marked = marks (method u) (marked (item.Method u.method)) is (inl refl)

      use_kept : IsTrue (k.called u.method.0) → IsTrue (keeps_use k u)
      use_kept c =
          and_from (can_call k u.method.0 && keeps_expr k u.owner) (list_all (shows_expr k) u.args)
          (and_from (can_call k u.method.0) (keeps_expr k u.owner) (and_from (k.method u.method.0) (k.called u.method.0) (method_is recs has u.method method_marked) c) owner_kept) (all_of (shows_expr k) u.args arg_shown)

      called : MethodIn recs methods u → IsTrue (k.called u.method.0) → IsTrue (keeps_called k (queries_of recs) u)
      unfolding queries_of
      called o c =
          and_from (keeps_use k u && begins_expr k u.owner) (is_of_owner (method_query recs u.method.0) u.owner)
          (and_from (keeps_use k u) (begins_expr k u.owner) (use_kept c)
          (method_begins_type recs has o.owner o.at u.owner o.row o.owned owner_marked (subst (λ (n : MethodId). IsTrue (has (marked (item.Method n)))) o.method method_marked)))
          (ap (λ (n : MethodId). is_of_owner (method_query recs n.0) u.owner) o.method ∙ called_owned recs o.owner o.at o.row u.owner o.owned)

      -- what `newobj` makes
      made_owner : MethodIn recs methods u → ((t : TypeId) → In t (definitions_in u.owner) → IsTrue (has (shown t))) → ((x : Fact) → In x (makes_type recs u) → is_added recs x ≡ false → IsTrue (has x)) → IsTrue (shows_expr k u.owner && news_expr k u.owner)
      unfolding news_expr
      made_owner o d made =
          and_from (shows_expr k u.owner) (news_expr k u.owner) (shows_by recs has u.owner owner_marked d owner_argument)
          (owner_passes recs k.made o.owner u.owner o.owned (λ t home of g. made_is recs has t (made (instantiated t) (mapped_in instantiated t (listed (owner_of recs u.owner)) (listed_in t (owner_of recs u.owner) of)) refl)))

    -- ---- a field with its owner

    module _ (u : FieldUse) (is : p.named ≡ Good (field u)) where
      field_owner_marked : (t : TypeId) → In t (types_in u.owner) → IsTrue (has (marked (item.Typ t)))
      field_owner_marked t g = marks (field u) (marked (item.Typ t)) is (inr (mapped_in (λ t. marked (item.Typ t)) t (types_in u.owner) g))

      field_owner_kept : IsTrue (keeps_expr k u.owner)
      field_owner_kept =
          kept_by_parts k u.owner (λ t g. typ_is recs has t (field_owner_marked t g))
          (λ t g. shown_is recs has t (field_owner_marked t (arguments_are_types k u.owner t g)) (shows (field u) t is g))

      field_marked : IsTrue (has (marked (item.Field u.field)))
      field_marked = marks (field u) (marked (item.Field u.field)) is (inl refl)

      begun_by : (b : Bool) → is_static (field_query recs u.field.0) ≡ b → FieldIn recs fields u → IsTrue (not b || begins_expr k u.owner)
      begun_by false s o = refl
      begun_by true s o =
          field_begins_type recs has o.owner o.at u.owner o.row o.owned field_owner_marked (subst (λ (n : FieldId). IsTrue (has (marked (item.Field n)))) o.field field_marked)
          (static_row recs o.owner o.at o.row (sym (ap (λ (n : FieldId). is_static (field_query recs n.0)) o.field) ∙ s))

      accessed : FieldIn recs fields u → IsTrue (keeps_accessed k (queries_of recs) u)
      unfolding queries_of
      accessed o =
          and_from (k.field u.field.0 && keeps_expr k u.owner) (not (is_static (field_query recs u.field.0)) || begins_expr k u.owner)
          (and_from (k.field u.field.0) (keeps_expr k u.owner) (field_is recs has u.field field_marked) field_owner_kept) (begun_by (is_static (field_query recs u.field.0)) refl o)

  -- ---- instructions of an item

  -- the methods that its parts name can be called
  abbrev pub CallsParts : Item → RowAt → Type 0
  CallsParts i at = (p : Part) (u : MethodUse) → In p (parts_of_item recs i at) → p.named ≡ Good (method u) → IsTrue (k.called u.method.0)

  module _ (i : Item) (at : RowAt) (whole : HasParts recs entry roots has m i at) (calls : CallsParts i at) (a : ℕ) (rec : AsmRec) (there : slice_get recs a ≡ Some rec) (place offset opcode : ℕ) where
    -- what is known of an instruction's operand
    pub record Told (f : Form) (o : Operand) : Type 0 where
      pub parts : (p : Part) → In p (operand_parts recs a rec place offset f o) → In p (parts_of_item recs i at) × In p (showing_parts recs i at)
      pub shows : (t : TypeId) → In t (shown_op recs a rec opcode f o) → IsTrue (has (shown t))
      pub makes : (x : Fact) → In x (makes_by recs a rec f o) → is_added recs x ≡ false → IsTrue (has x)

    abbrev Kept : Form → Use → Type 0
    Kept f u = IsTrue (keeps_operand k (queries_of recs) u && keeps_of_form k opcode f u)

    abbrev InParts : Part → Type 0
    InParts p = In p (parts_of_item recs i at) × In p (showing_parts recs i at)

    -- ---- by what the operand names

    typ_kept : (token : ℕ) (t : Known TypeExpr) → token_type recs a rec token ≡ t → InParts (type_token_part recs a rec place offset token) → IsTrue (if_good (keeps_expr k) t)
    typ_kept token (Bad why) e q = refl
    typ_kept token (Good x) e q = type_kept i at whole (type_token_part recs a rec place offset token) q.0 q.1 x (ap (known_map type) e)

    typ_shown : (token : ℕ) (t : Known TypeExpr) → token_type recs a rec token ≡ t → InParts (type_token_part recs a rec place offset token) → ((x : TypeId) → In x (known_types t) → IsTrue (has (shown x))) → IsTrue (if_good (shows_expr k) t)
    typ_shown token (Bad why) e q d = refl
    typ_shown token (Good x) e q d = type_shown i at whole (type_token_part recs a rec place offset token) q.0 q.1 x (ap (known_map type) e) d

    method_kept : (token : ℕ) (t : Known MethodUse) → method_named recs a rec token ≡ t → InParts (method_token_part recs a rec place offset token) → IsTrue (if_good (keeps_called k (queries_of recs)) t)
    method_kept token (Bad why) e q = refl
    method_kept token (Good u) e q = called i at whole (method_token_part recs a rec place offset token) q.0 q.1 u (ap (known_map method) e) (method_in_owner recs methods a rec token u there e)
        (calls (method_token_part recs a rec place offset token) u q.0 (ap (known_map method) e))

    method_made : (token : ℕ) (t : Known MethodUse) → method_named recs a rec token ≡ t → InParts (method_token_part recs a rec place offset token)
        → ((x : TypeId) → In x (made_types t) → IsTrue (has (shown x))) → ((x : Fact) → In x (of_known (makes_type recs) t) → is_added recs x ≡ false → IsTrue (has x)) → IsTrue (if_good (λ u. shows_expr k u.owner && news_expr k u.owner) t)
    method_made token (Bad why) e q d made = refl
    method_made token (Good u) e q d made =
        made_owner i at whole (method_token_part recs a rec place offset token) q.0 q.1 u (ap (known_map method) e) (method_in_owner recs methods a rec token u there e) d made

    field_kept : (token : ℕ) (t : Known FieldUse) → field_named recs a rec token ≡ t → InParts (field_token_part recs a rec place offset token) → IsTrue (if_good (keeps_accessed k (queries_of recs)) t)
    field_kept token (Bad why) e q = refl
    field_kept token (Good u) e q = accessed i at whole (field_token_part recs a rec place offset token) q.0 q.1 u (ap (known_map field) e) (field_in_owner recs fields a rec token u there e)

    -- ---- by forms

    quiet : (f : Form) (u : Use) → keeps_operand k (queries_of recs) u ≡ true → keeps_of_form k opcode f u ≡ true → Kept f u
    quiet f u x y = and_from (keeps_operand k (queries_of recs) u) (keeps_of_form k opcode f u) x y

    constrained : (token : ℕ) (b : Bool) → (opcode == CONSTRAINED) ≡ b → InParts (type_token_part recs a rec place offset token)
        → ((t : TypeId) → In t (if b then known_types (token_type recs a rec token) else []) → IsTrue (has (shown t))) → IsTrue (not b || if_good (shows_expr k) (token_type recs a rec token))
    constrained token false e q d = refl
    constrained token true e q d = typ_shown token (token_type recs a rec token) refl q d

    -- `ldtoken` names a type, a field or a method
    handled_by : (token : ℕ) (x y : Bool)
        → ((p : Part) → In p ((if x then field_token_part recs a rec place offset token else if y then method_token_part recs a rec place offset token else type_token_part recs a rec place offset token) ∷ []) → InParts p)
        → ((t : TypeId) → In t (if x then [] else if y then [] else known_types (token_type recs a rec token)) → IsTrue (has (shown t)))
        → Kept form.LdToken (if x then use_of.Field (field_named recs a rec token) else if y then use_of.Method (method_named recs a rec token) else use_of.Typ (token_type recs a rec token))
    handled_by token true y q d = quiet form.LdToken (use_of.Field (field_named recs a rec token)) (field_kept token (field_named recs a rec token) refl (q _ (inl refl))) refl
    handled_by token false true q d = quiet form.LdToken (use_of.Method (method_named recs a rec token)) (method_kept token (method_named recs a rec token) refl (q _ (inl refl))) refl
    handled_by token false false q d =
        quiet form.LdToken (use_of.Typ (token_type recs a rec token)) (typ_kept token (token_type recs a rec token) refl (q _ (inl refl))) (typ_shown token (token_type recs a rec token) refl (q _ (inl refl)) d)

    by_form : (f : Form) (token : ℕ) → Told f (operand.Token token) → Kept f (use_by recs a rec f (operand.Token token))
    by_form form.Nop token g = quiet form.Nop (use_of.Typ (token_type recs a rec token)) (typ_kept token (token_type recs a rec token) refl (g.parts _ (inl refl))) refl
    by_form form.LdArg token g = quiet form.LdArg (use_of.Typ (token_type recs a rec token)) (typ_kept token (token_type recs a rec token) refl (g.parts _ (inl refl))) refl
    by_form form.LdArgA token g = quiet form.LdArgA (use_of.Typ (token_type recs a rec token)) (typ_kept token (token_type recs a rec token) refl (g.parts _ (inl refl))) refl
    by_form form.StArg token g = quiet form.StArg (use_of.Typ (token_type recs a rec token)) (typ_kept token (token_type recs a rec token) refl (g.parts _ (inl refl))) refl
    by_form form.LdLoc token g = quiet form.LdLoc (use_of.Typ (token_type recs a rec token)) (typ_kept token (token_type recs a rec token) refl (g.parts _ (inl refl))) refl
    by_form form.LdLocA token g = quiet form.LdLocA (use_of.Typ (token_type recs a rec token)) (typ_kept token (token_type recs a rec token) refl (g.parts _ (inl refl))) refl
    by_form form.StLoc token g = quiet form.StLoc (use_of.Typ (token_type recs a rec token)) (typ_kept token (token_type recs a rec token) refl (g.parts _ (inl refl))) refl
    by_form form.LdNull token g = quiet form.LdNull (use_of.Typ (token_type recs a rec token)) (typ_kept token (token_type recs a rec token) refl (g.parts _ (inl refl))) refl
    by_form form.LdI4 token g = quiet form.LdI4 (use_of.Typ (token_type recs a rec token)) (typ_kept token (token_type recs a rec token) refl (g.parts _ (inl refl))) refl
    by_form form.LdI8 token g = quiet form.LdI8 (use_of.Typ (token_type recs a rec token)) (typ_kept token (token_type recs a rec token) refl (g.parts _ (inl refl))) refl
    by_form form.LdStr token g = refl
    by_form form.Dup token g = quiet form.Dup (use_of.Typ (token_type recs a rec token)) (typ_kept token (token_type recs a rec token) refl (g.parts _ (inl refl))) refl
    by_form form.Pop token g = quiet form.Pop (use_of.Typ (token_type recs a rec token)) (typ_kept token (token_type recs a rec token) refl (g.parts _ (inl refl))) refl
    by_form form.Br token g = quiet form.Br (use_of.Typ (token_type recs a rec token)) (typ_kept token (token_type recs a rec token) refl (g.parts _ (inl refl))) refl
    by_form form.BrIf token g = quiet form.BrIf (use_of.Typ (token_type recs a rec token)) (typ_kept token (token_type recs a rec token) refl (g.parts _ (inl refl))) refl
    by_form form.Switch token g = quiet form.Switch (use_of.Typ (token_type recs a rec token)) (typ_kept token (token_type recs a rec token) refl (g.parts _ (inl refl))) refl
    by_form form.Leave token g = quiet form.Leave (use_of.Typ (token_type recs a rec token)) (typ_kept token (token_type recs a rec token) refl (g.parts _ (inl refl))) refl
    by_form form.EndFinally token g = quiet form.EndFinally (use_of.Typ (token_type recs a rec token)) (typ_kept token (token_type recs a rec token) refl (g.parts _ (inl refl))) refl
    by_form form.Binary token g = quiet form.Binary (use_of.Typ (token_type recs a rec token)) (typ_kept token (token_type recs a rec token) refl (g.parts _ (inl refl))) refl
    by_form form.Unary token g = quiet form.Unary (use_of.Typ (token_type recs a rec token)) (typ_kept token (token_type recs a rec token) refl (g.parts _ (inl refl))) refl
    by_form form.Convert token g = quiet form.Convert (use_of.Typ (token_type recs a rec token)) (typ_kept token (token_type recs a rec token) refl (g.parts _ (inl refl))) refl
    by_form form.Call token g = quiet form.Call (use_of.Method (method_named recs a rec token)) (method_kept token (method_named recs a rec token) refl (g.parts _ (inl refl))) refl
    by_form form.Ret token g = quiet form.Ret (use_of.Typ (token_type recs a rec token)) (typ_kept token (token_type recs a rec token) refl (g.parts _ (inl refl))) refl
    by_form form.NewObj token g = quiet form.NewObj (use_of.Method (method_named recs a rec token)) (method_kept token (method_named recs a rec token) refl (g.parts _ (inl refl))) (method_made token (method_named recs a rec token) refl (g.parts _ (inl refl)) g.shows g.makes)
    by_form form.Throw token g = quiet form.Throw (use_of.Typ (token_type recs a rec token)) (typ_kept token (token_type recs a rec token) refl (g.parts _ (inl refl))) refl
    by_form form.Cast token g = quiet form.Cast (use_of.Typ (token_type recs a rec token)) (typ_kept token (token_type recs a rec token) refl (g.parts _ (inl refl))) refl
    by_form form.Box token g = quiet form.Box (use_of.Typ (token_type recs a rec token)) (typ_kept token (token_type recs a rec token) refl (g.parts _ (inl refl))) (typ_shown token (token_type recs a rec token) refl (g.parts _ (inl refl)) g.shows)
    by_form form.Unbox token g = quiet form.Unbox (use_of.Typ (token_type recs a rec token)) (typ_kept token (token_type recs a rec token) refl (g.parts _ (inl refl))) refl
    by_form form.Field token g = quiet form.Field (use_of.Field (field_named recs a rec token)) (field_kept token (field_named recs a rec token) refl (g.parts _ (inl refl))) refl
    by_form form.NewArr token g = quiet form.NewArr (use_of.Typ (token_type recs a rec token)) (typ_kept token (token_type recs a rec token) refl (g.parts _ (inl refl))) (typ_shown token (token_type recs a rec token) refl (g.parts _ (inl refl)) g.shows)
    by_form form.Elem token g = quiet form.Elem (use_of.Typ (token_type recs a rec token)) (typ_kept token (token_type recs a rec token) refl (g.parts _ (inl refl))) refl
    by_form form.Indirect token g = quiet form.Indirect (use_of.Typ (token_type recs a rec token)) (typ_kept token (token_type recs a rec token) refl (g.parts _ (inl refl))) refl
    by_form form.LdToken token g = handled_by token (is_field_token rec token) (is_method_token token) g.parts g.shows
    by_form form.Prefix token g = quiet form.Prefix (use_of.Typ (token_type recs a rec token)) (typ_kept token (token_type recs a rec token) refl (g.parts _ (inl refl))) (constrained token (opcode == CONSTRAINED) refl (g.parts _ (inl refl)) g.shows)

    -- an operand that names nothing
    without : (f : Form) → Kept f use_of.Nothing
    without form.Nop = refl
    without form.LdArg = refl
    without form.LdArgA = refl
    without form.StArg = refl
    without form.LdLoc = refl
    without form.LdLocA = refl
    without form.StLoc = refl
    without form.LdNull = refl
    without form.LdI4 = refl
    without form.LdI8 = refl
    without form.LdStr = refl
    without form.Dup = refl
    without form.Pop = refl
    without form.Br = refl
    without form.BrIf = refl
    without form.Switch = refl
    without form.Leave = refl
    without form.EndFinally = refl
    without form.Binary = refl
    without form.Unary = refl
    without form.Convert = refl
    without form.Call = refl
    without form.Ret = refl
    without form.NewObj = refl
    without form.Throw = refl
    without form.Cast = refl
    without form.Box = refl
    without form.Unbox = refl
    without form.Field = refl
    without form.NewArr = refl
    without form.Elem = refl
    without form.Indirect = refl
    without form.LdToken = refl
    without form.Prefix = refl

    with_number : (f : Form) (n : ℤ) → Kept f (use_of.Number n)
    with_number form.Nop n = refl
    with_number form.LdArg n = refl
    with_number form.LdArgA n = refl
    with_number form.StArg n = refl
    with_number form.LdLoc n = refl
    with_number form.LdLocA n = refl
    with_number form.StLoc n = refl
    with_number form.LdNull n = refl
    with_number form.LdI4 n = refl
    with_number form.LdI8 n = refl
    with_number form.LdStr n = refl
    with_number form.Dup n = refl
    with_number form.Pop n = refl
    with_number form.Br n = refl
    with_number form.BrIf n = refl
    with_number form.Switch n = refl
    with_number form.Leave n = refl
    with_number form.EndFinally n = refl
    with_number form.Binary n = refl
    with_number form.Unary n = refl
    with_number form.Convert n = refl
    with_number form.Call n = refl
    with_number form.Ret n = refl
    with_number form.NewObj n = refl
    with_number form.Throw n = refl
    with_number form.Cast n = refl
    with_number form.Box n = refl
    with_number form.Unbox n = refl
    with_number form.Field n = refl
    with_number form.NewArr n = refl
    with_number form.Elem n = refl
    with_number form.Indirect n = refl
    with_number form.LdToken n = refl
    with_number form.Prefix n = refl

    with_slot : (f : Form) (n : ℕ) → Kept f (use_of.Slot n)
    with_slot form.Nop n = refl
    with_slot form.LdArg n = refl
    with_slot form.LdArgA n = refl
    with_slot form.StArg n = refl
    with_slot form.LdLoc n = refl
    with_slot form.LdLocA n = refl
    with_slot form.StLoc n = refl
    with_slot form.LdNull n = refl
    with_slot form.LdI4 n = refl
    with_slot form.LdI8 n = refl
    with_slot form.LdStr n = refl
    with_slot form.Dup n = refl
    with_slot form.Pop n = refl
    with_slot form.Br n = refl
    with_slot form.BrIf n = refl
    with_slot form.Switch n = refl
    with_slot form.Leave n = refl
    with_slot form.EndFinally n = refl
    with_slot form.Binary n = refl
    with_slot form.Unary n = refl
    with_slot form.Convert n = refl
    with_slot form.Call n = refl
    with_slot form.Ret n = refl
    with_slot form.NewObj n = refl
    with_slot form.Throw n = refl
    with_slot form.Cast n = refl
    with_slot form.Box n = refl
    with_slot form.Unbox n = refl
    with_slot form.Field n = refl
    with_slot form.NewArr n = refl
    with_slot form.Elem n = refl
    with_slot form.Indirect n = refl
    with_slot form.LdToken n = refl
    with_slot form.Prefix n = refl

    with_target : (f : Form) (n : ℕ) → Kept f (use_of.Target n)
    with_target form.Nop n = refl
    with_target form.LdArg n = refl
    with_target form.LdArgA n = refl
    with_target form.StArg n = refl
    with_target form.LdLoc n = refl
    with_target form.LdLocA n = refl
    with_target form.StLoc n = refl
    with_target form.LdNull n = refl
    with_target form.LdI4 n = refl
    with_target form.LdI8 n = refl
    with_target form.LdStr n = refl
    with_target form.Dup n = refl
    with_target form.Pop n = refl
    with_target form.Br n = refl
    with_target form.BrIf n = refl
    with_target form.Switch n = refl
    with_target form.Leave n = refl
    with_target form.EndFinally n = refl
    with_target form.Binary n = refl
    with_target form.Unary n = refl
    with_target form.Convert n = refl
    with_target form.Call n = refl
    with_target form.Ret n = refl
    with_target form.NewObj n = refl
    with_target form.Throw n = refl
    with_target form.Cast n = refl
    with_target form.Box n = refl
    with_target form.Unbox n = refl
    with_target form.Field n = refl
    with_target form.NewArr n = refl
    with_target form.Elem n = refl
    with_target form.Indirect n = refl
    with_target form.LdToken n = refl
    with_target form.Prefix n = refl

    with_targets : (f : Form) (n : List ℕ) → Kept f (use_of.Targets n)
    with_targets form.Nop n = refl
    with_targets form.LdArg n = refl
    with_targets form.LdArgA n = refl
    with_targets form.StArg n = refl
    with_targets form.LdLoc n = refl
    with_targets form.LdLocA n = refl
    with_targets form.StLoc n = refl
    with_targets form.LdNull n = refl
    with_targets form.LdI4 n = refl
    with_targets form.LdI8 n = refl
    with_targets form.LdStr n = refl
    with_targets form.Dup n = refl
    with_targets form.Pop n = refl
    with_targets form.Br n = refl
    with_targets form.BrIf n = refl
    with_targets form.Switch n = refl
    with_targets form.Leave n = refl
    with_targets form.EndFinally n = refl
    with_targets form.Binary n = refl
    with_targets form.Unary n = refl
    with_targets form.Convert n = refl
    with_targets form.Call n = refl
    with_targets form.Ret n = refl
    with_targets form.NewObj n = refl
    with_targets form.Throw n = refl
    with_targets form.Cast n = refl
    with_targets form.Box n = refl
    with_targets form.Unbox n = refl
    with_targets form.Field n = refl
    with_targets form.NewArr n = refl
    with_targets form.Elem n = refl
    with_targets form.Indirect n = refl
    with_targets form.LdToken n = refl
    with_targets form.Prefix n = refl

    pub operand_kept : (f : Form) (o : Operand) → Told f o → Kept f (use_by recs a rec f o)
    operand_kept f operand.None g = without f
    operand_kept f (operand.Number n) g = with_number f n
    operand_kept f (operand.Slot n) g = with_slot f n
    operand_kept f (operand.Token token) g = by_form f token g
    operand_kept f (operand.Target n) g = with_target f n
    operand_kept f (operand.Targets ns) g = with_targets f ns
