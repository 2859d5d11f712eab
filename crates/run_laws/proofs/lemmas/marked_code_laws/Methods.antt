-- What a marked method's signature and body name is kept.
use Rattle.std.proofs.Common.{◌≡◌, ℕ, suc, Bool, true, false, List, [], ◌∷◌, ◌++◌, map, Option, Some, None, inl, inr, refl, sym, ap, subst, ◌∙◌, arith}
use Rattle.std.specs.Prelude.{IsTrue, slice_get, not, ◌==◌, ◌&&◌, if◌then◌else◌}
use Rattle.std.specs.List.{list_all, list_any, flat_map, position_from}
use Rattle.std.specs.Option.{option_map, option_and_then}
use Rattle.std.proofs.lemmas.Bool.{and_from, or_left, or_right, true≢false}
use Rattle.il_base.specs.declared.ids.TypeId.{TypeId}
use Rattle.il_base.specs.declared.ids.Item.{Item}
use Rattle.il_base.specs.declared.ids.Item.TheVariants as item
use Rattle.il_base.specs.declared.body.Body.{Body}
use Rattle.il_base.specs.declared.body.Instr.{Instr}
use Rattle.il_base.specs.declared.body.Handler.{Handler}
use Rattle.il_base.specs.declared.body.Operand.{Operand}
use Rattle.il_base.specs.declared.body.Operand.TheVariants as operand
use Rattle.il_base.specs.declared.table.TheConstants.{METHOD_DEF, STAND_ALONE_SIG}
use Rattle.il_base.specs.declared.outside.TheConstants.{PLATFORM, INTERFACE_BODY, GLOBAL_MEMBER}
use Rattle.il_base.specs.declared.world_model.known.Known.{Known}
use Rattle.il_base.specs.declared.world_model.known.Known.TheVariants.{Good, Bad}
use Rattle.il_base.specs.declared.world_model.known.BadKind.{BadKind}
use Rattle.il_base.specs.declared.world_model.known.BadKind.TheVariants.{Outside}
use Rattle.il_base.specs.declared.world_model.expr.TypeExpr.{TypeExpr}
use Rattle.il_base.specs.declared.world_model.expr.MethodUse.{MethodUse}
use Rattle.il_base.specs.declared.world_model.members.MethodDefRow.{MethodDefRow}
use Rattle.il_base.specs.declared.world_model.members.StandAloneSigRow.{StandAloneSigRow}
use Rattle.il_base.specs.declared.world_model.record.AsmRec.{AsmRec}
use Rattle.il_base.specs.world_model.Tokens.{token_of, index_in}
use Rattle.il_base.specs.world_model.Worlds.{type_id, known_map, known_then}
use Rattle.rules.specs.declared.link_rules.row_at.RowAt.{RowAt}
use Rattle.rules.specs.declared.link_rules.member_type.MethodType.{MethodType}
use Rattle.rules.specs.link_rules.Types.{at_row}
use Rattle.rules.specs.link_rules.Signatures.{names_at, method_type, token_type}
use Rattle.rules.specs.link_rules.Members.{home_from, type_home, methods_in, owns_method, arguments_of}
use Rattle.rules.specs.link_rules.Cycles.{listed}
use Rattle.rules.specs.link_rules.Linked.{assemblies}
use Rattle.rules.specs.type_rules.Slots.{type_of_method}
use Rattle.rules.specs.type_rules.Rows.{rec_at}
use Rattle.base_laws.proofs.lemmas.type_laws.Within.{In, in_front, in_behind, listed_in, flat_in}
use Rattle.base_laws.proofs.lemmas.type_laws.Places.{place_within}
use Rattle.base_laws.proofs.lemmas.walk_laws.Finds.{found}
use Rattle.run_laws.proofs.lemmas.query_laws.Ids.{has_number}
use Rattle.descriptor_file.specs.declared.root.Root.{Root}
use Rattle.rules.specs.mark_rules.Facts.{Fact}
use Rattle.rules.specs.mark_rules.Facts.Fact.{marked, shown}
use Rattle.rules.specs.mark_rules.Places.{method_item, marks_method, row_of}
use Rattle.rules.specs.mark_rules.BadItems.{is_global, is_platform, is_interface_body}
use Rattle.rules.specs.mark_rules.Naming.{Part, of_parts, good_part, type_parts, parts_of, method_sig_parts, method_type_parts, type_token_part}
use Rattle.rules.specs.mark_rules.Naming.Named.{type, method}
use Rattle.rules.specs.mark_rules.Bodies.{operand_parts, instruction_parts, locals_row_parts, locals_parts, is_catch, handler_parts, is_read, are_locals_read, code_parts, body_parts, body_of}
use Rattle.rules.specs.mark_rules.Types.{constraints_of}
use Rattle.rules.specs.mark_rules.Calls.{owner_facts, row_parts, parts_of_method, uncaught_row_parts, uncaught_parts, method_needs, makes_by, code_of, made_in, makes, overrides_of, method_starts}
use Rattle.rules.specs.mark_rules.Calls as calls
use Rattle.rules.specs.mark_rules.NotYet.{is_operand, has_operand}
use Rattle.rules.specs.mark_rules.Properties.{accessed}
use Rattle.rules.specs.mark_rules.Shown.{arguments_of_parts, showing_parts, shown_by_item, shown_in, shown_code}
use Rattle.il_base.specs.declared.cil_values.definition.Method.{Method}
use Rattle.rules.specs.step_rules.Queries.{Queries}
use Rattle.rules.specs.view_rules.Code.{instruction_of, clause_of, locals_row, locals_of}
use Rattle.rules.specs.view_rules.Code as view_code
use Rattle.rules.specs.view_rules.Methods.{signature_by, body_by, is_core_row, method_by, method_at, method_query}
use Rattle.rules.specs.view_rules.Answers.{queries_of}
use Rattle.rules.specs.change_rules.Change.{Keep}
use Rattle.rules.specs.change_rules.Keeps.{keeps_expr, keeps_defined, if_good, keeps_instruction, keeps_clause, keeps_code, keeps_signature, keeps_body, keeps_method}
use Rattle.run_laws.specs.marked_laws.Flags.{is_added, HasMarks, searches_at, keep_of}
use Rattle.run_laws.proofs.lemmas.marked_laws.Closing.{mapped_in, row_gives, item_gives_shown}
use Rattle.run_laws.proofs.lemmas.marked_laws.Flags.{typ_has, method_is, method_has}
use Rattle.run_laws.proofs.lemmas.marked_laws.Named.{defined_by_types}
use Rattle.run_laws.proofs.lemmas.marked_laws.Places.{method_row_of}
use Rattle.run_laws.proofs.lemmas.marked_laws.Parts.{HasParts, part_types, part_kept}
use Rattle.run_laws.proofs.lemmas.marked_laws.Rows.{needs_in, owner_kept}
use Rattle.run_laws.proofs.lemmas.marked_laws.Searches.{search_reflects}
use Rattle.run_laws.specs.marked_code_laws.Laws.{MethodsApart, FieldsApart, AreRead, AreFollowed, MarkedMethods}
use Rattle.run_laws.proofs.lemmas.marked_code_laws.Owners.{InOwner, own_home}
use Rattle.run_laws.proofs.lemmas.marked_code_laws.Begins.{method_begins_row}
use Rattle.run_laws.proofs.lemmas.marked_code_laws.Operands.{all_of, shown_op, CallsParts, operand_kept}

all_mapped : {A B : Type 0} (p : B → Bool) (f : A → B) (xs : List A) → ((x : A) → In x xs → IsTrue (p (f x))) → IsTrue (list_all p (map f xs))
all_mapped p f [] h = refl
all_mapped p f (x ∷ xs) h = and_from (p (f x)) (list_all p (map f xs)) (h x (inl refl)) (all_mapped p f xs (λ y i. h y (inr i)))

any_of : {A : Type 0} (p : A → Bool) (x : A) (xs : List A) → In x xs → p x ≡ true → list_any p xs ≡ true
any_of p x [] i h = absurd i
any_of p x (y ∷ xs) (inl e) h = or_left (p y) (list_any p xs) (ap p (sym e) ∙ h)
any_of p x (y ∷ xs) (inr i) h = or_right (p y) (list_any p xs) (any_of p x xs i h)

module _ (recs : List AsmRec) (entry : Option RowAt) (roots : List Root) (has : Fact → Bool) (m : HasMarks recs entry roots has) (methods : MethodsApart recs) (fields : FieldsApart recs) (follows : AreFollowed recs has) where
  abbrev k : Keep
  k = keep_of recs has

  abbrev q : Queries
  q = queries_of recs

  module _ (at : RowAt) (rec : AsmRec) (d : MethodDefRow) (h : IsTrue (has (marks_method recs at))) (there : slice_get recs at.asm ≡ Some rec) (row : slice_get rec.method_def at.row ≡ Some d) where
    abbrev place : ℕ
    place = token_of METHOD_DEF (suc at.row)

    abbrev self : Item
    self = method_item recs at

    is_row : row_of recs self ≡ Some at
    is_row = method_row_of recs at rec there d row

    needed : (f : Fact) → In f (of_parts (parts_of_method recs at)) → In f (method_needs recs at)
    unfolding method_needs
    needed f i = in_behind f (owner_facts recs at) (of_parts (parts_of_method recs at)) i

    whole : HasParts recs entry roots has m self at
    whole = record { marks = h; is = is_row; classed = tt; needs = λ f i. needs_in recs entry roots has m at f (needed f i) }

    -- ---- its parts

    in_parts : (p : Part) → In p (row_parts recs at rec d) → In p (parts_of_method recs at)
    unfolding parts_of_method
    in_parts p i =
        flat_in (λ (rec : AsmRec). flat_map (row_parts recs at rec) (listed (slice_get rec.method_def at.row))) p rec (listed (rec_at recs at)) (listed_in rec (rec_at recs at) there)
        (flat_in (row_parts recs at rec) p d (listed (slice_get rec.method_def at.row)) (listed_in d (slice_get rec.method_def at.row) row) i)

    -- no part names a member that searches
    reflects : (p : Part) (u : MethodUse) → p.named ≡ Good (method u) → searches_at recs u.method.0 ≡ true → is_operand recs p ≡ true
    reflects p u is s = subst (λ (x : Part). is_operand recs x ≡ true) (λ i. record p { named = sym is i }) (search_reflects recs u.method.0 s)

    operands_by : (p : Part) (b : Bool) → In p (parts_of_method recs at) → has_operand recs at ≡ b → is_operand recs p ≡ true → b ≡ true
    unfolding has_operand
    operands_by p b i e h = sym e ∙ any_of (is_operand recs) p (parts_of_method recs at) i h

    called_by : (p : Part) (u : MethodUse) (b : Bool) → In p (parts_of_method recs at) → p.named ≡ Good (method u) → searches_at recs u.method.0 ≡ b → not b ≡ true
    called_by p u true i is s = absurd (true≢false (sym (operands_by p false i (follows at h) (reflects p u is s))))
    called_by p u false i is s = refl

    parts_called : CallsParts recs entry roots has m methods fields self at
    unfolding keep_of
    parts_called p u i is = called_by p u (searches_at recs u.method.0) i is refl

    in_uncaught : (p : Part) → In p (uncaught_row_parts recs at rec d) → In p (uncaught_parts recs at)
    unfolding uncaught_parts
    in_uncaught p i =
        flat_in (λ (rec : AsmRec). flat_map (uncaught_row_parts recs at rec) (listed (slice_get rec.method_def at.row))) p rec (listed (rec_at recs at)) (listed_in rec (rec_at recs at) there)
        (flat_in (uncaught_row_parts recs at rec) p d (listed (slice_get rec.method_def at.row)) (listed_in d (slice_get rec.method_def at.row) row) i)

    -- ---- its signature

    abbrev sig : List Part
    sig = method_sig_parts recs at.asm rec place d.signature

    abbrev constraints : List Part
    constraints = constraints_of recs at.asm rec place

    sig_part_kept : (p : Part) (e : TypeExpr) → In p sig → p.named ≡ Good (type e) → IsTrue (keeps_expr k e)
    sig_part_kept p e i is =
        part_kept recs entry roots has m self at whole p e (in_parts p (in_front p (sig ++ constraints) _ (in_front p sig constraints i)))
        (in_uncaught p (in_front p (sig ++ constraints) _ (in_front p sig constraints i))) is

    named_kept : (t : MethodType) (e : TypeExpr) → known_then (method_type (names_at recs at.asm rec)) d.signature ≡ Good t → In e (t.ret ∷ t.params) → IsTrue (keeps_expr k e)
    named_kept t e is i =
        sig_part_kept (good_part place (type e)) e
        (subst (λ (s : Known MethodType). In (good_part place (type e)) (parts_of place (method_type_parts place) s)) (sym is) (mapped_in (λ e. good_part place (type e)) e (t.ret ∷ t.params) i)) refl

    sig_kept : (s : Known MethodType) → known_then (method_type (names_at recs at.asm rec)) d.signature ≡ s → IsTrue (if_good (keeps_signature k) (known_map signature_by s))
    sig_kept (Bad why) is = refl
    sig_kept (Good t) is =
        and_from (list_all (keeps_expr k) t.params) (keeps_expr k t.ret) (all_of (keeps_expr k) t.params (λ e i. named_kept t e is (inr i))) (named_kept t t.ret is (inl refl))

    -- ---- its body

    module _ (b : Body) (has_body : d.body ≡ Some (Good b)) (read : is_read d.signature ≡ true) (locals_read : are_locals_read rec b.locals ≡ true) where
      with_body : d ≡ record d { body = Some (Good b) }
      with_body = λ i. record d { body = has_body i }

      in_body : In b (body_of d)
      in_body = subst (λ (x : MethodDefRow). In b (body_of x)) (sym with_body) (inl refl)

      both_read : (is_read d.signature && are_locals_read rec b.locals) ≡ true
      both_read = and_from (is_read d.signature) (are_locals_read rec b.locals) read locals_read

      abbrev code : List Part
      code = code_parts recs at.asm rec place (is_read d.signature) b

      abbrev handlers : List Part
      handlers = flat_map (handler_parts recs at.asm rec place) b.handlers

      in_body_parts : (p : Part) → In p (code ++ handlers) → In p (parts_of_method recs at)
      in_body_parts p i = in_parts p (in_behind p (sig ++ constraints) _ (flat_in (body_parts recs at.asm rec place (is_read d.signature)) p b (body_of d) in_body i))

      in_code_parts : (p : Part) → In p code → In p (parts_of_method recs at) × In p (uncaught_parts recs at)
      in_code_parts p i = (
        in_body_parts p (in_front p code handlers i),
        in_uncaught p (in_behind p (sig ++ constraints) _ (flat_in (code_parts recs at.asm rec place (is_read d.signature)) p b (body_of d) in_body i)),
      )

      -- ---- locals

      local_kept : (p : Part) (e : TypeExpr) → In p (locals_parts recs at.asm rec place b.locals) → p.named ≡ Good (type e) → IsTrue (keeps_expr k e)
      local_kept p e i is = let c = in_code_parts p (in_front p (locals_parts recs at.asm rec place b.locals) _ i) in part_kept recs entry roots has m self at whole p e c.0 c.1 is

      row_kept : (t : Known (List TypeExpr)) → ((p : Part) (e : TypeExpr) → In p (parts_of place (type_parts place) t) → p.named ≡ Good (type e) → IsTrue (keeps_expr k e)) → IsTrue (if_good (list_all (keeps_expr k)) t)
      row_kept (Bad why) f = refl
      row_kept (Good es) f = all_of (keeps_expr k) es (λ e i. f (good_part place (type e)) e (mapped_in (λ e. good_part place (type e)) e es i) refl)

      locals_row_kept : (o : Option StandAloneSigRow) → ((p : Part) (e : TypeExpr) → In p (locals_row_parts recs at.asm rec place o) → p.named ≡ Good (type e) → IsTrue (keeps_expr k e)) → IsTrue (if_good (list_all (keeps_expr k)) (locals_row recs at.asm rec o))
      locals_row_kept None f = refl
      locals_row_kept (Some r) f = row_kept (known_then (arguments_of (names_at recs at.asm rec)) r.signature) f

      locals_by : (z : Bool) (o : Option StandAloneSigRow) → ((p : Part) (e : TypeExpr) → In p (if z then [] else locals_row_parts recs at.asm rec place o) → p.named ≡ Good (type e) → IsTrue (keeps_expr k e))
          → IsTrue (if_good (list_all (keeps_expr k)) (if z then Good [] else locals_row recs at.asm rec o))
      locals_by true o f = refl
      locals_by false o f = locals_row_kept o f

      locals_kept : IsTrue (if_good (list_all (keeps_expr k)) (locals_of recs at.asm rec b.locals))
      locals_kept = locals_by (b.locals == 0) (option_and_then (slice_get rec.stand_alone_sig) (index_in STAND_ALONE_SIG b.locals)) local_kept

      -- ---- instructions

      module _ (x : Instr) (among : In x b.code) where
        in_code : In x (calls.code_of rec d)
        in_code =
            flat_in (λ (b : Body). if is_read d.signature && are_locals_read rec b.locals then b.code else []) x b (body_of d) in_body
            (subst (λ (c : Bool). In x (if c then b.code else [])) (sym both_read) among)

        op_part : (p : Part) → In p (operand_parts recs at.asm rec place x.at x.form x.operand) → In p (parts_of_method recs at) × In p (uncaught_parts recs at)
        op_part p i =
            in_code_parts p (in_behind p (locals_parts recs at.asm rec place b.locals) _
            (subst (λ (c : Bool). In p (if c then flat_map (instruction_parts recs at.asm rec place) b.code else [])) (sym both_read) (flat_in (instruction_parts recs at.asm rec place) p x b.code among i)))

        same_shown : (o : Operand) → shown_in recs at.asm rec x o ≡ shown_op recs at.asm rec x.opcode x.form o
        same_shown operand.None = refl
        same_shown (operand.Number n) = refl
        same_shown (operand.Slot n) = refl
        same_shown (operand.Token token) = refl
        same_shown (operand.Target n) = refl
        same_shown (operand.Targets ns) = refl

        op_shows : (t : TypeId) → In t (shown_op recs at.asm rec x.opcode x.form x.operand) → IsTrue (has (shown t))
        op_shows t i =
            item_gives_shown recs entry roots has m self at t h is_row
            (in_behind t (arguments_of_parts (showing_parts recs self at)) (shown_by_item recs self at)
            (flat_in (λ (rec : AsmRec). flat_map (shown_code recs at.asm rec) (listed (slice_get rec.method_def at.row))) t rec (listed (rec_at recs at)) (listed_in rec (rec_at recs at) there)
            (flat_in (shown_code recs at.asm rec) t d (listed (slice_get rec.method_def at.row)) (listed_in d (slice_get rec.method_def at.row) row)
            (flat_in (λ (i : Instr). shown_in recs at.asm rec i i.operand) t x (calls.code_of rec d) in_code (subst (λ ts. In t ts) (sym (same_shown x.operand)) i)))))

        in_makes : (f : Fact) → In f (makes_by recs at.asm rec x.form x.operand) → In f (makes recs at)
        unfolding makes
        in_makes f i =
            flat_in (λ (rec : AsmRec). flat_map (made_in recs at.asm rec) (listed (slice_get rec.method_def at.row))) f rec (listed (rec_at recs at)) (listed_in rec (rec_at recs at) there)
            (flat_in (made_in recs at.asm rec) f d (listed (slice_get rec.method_def at.row)) (listed_in d (slice_get rec.method_def at.row) row)
            (flat_in (λ (i : Instr). makes_by recs at.asm rec i.form i.operand) f x (calls.code_of rec d) in_code i))

        op_makes : (f : Fact) → In f (makes_by recs at.asm rec x.form x.operand) → is_added recs f ≡ false → IsTrue (has f)
        op_makes f i known =
            row_gives recs entry roots has m self at f h is_row
            (in_front f (method_needs recs at ++ makes recs at ++ overrides_of recs at ++ method_starts recs at) (accessed recs at)
            (in_front f (method_needs recs at ++ makes recs at ++ overrides_of recs at) (method_starts recs at)
            (in_front f (method_needs recs at ++ makes recs at) (overrides_of recs at) (in_behind f (method_needs recs at) (makes recs at) (in_makes f i))))) known

        instruction_kept : IsTrue (keeps_instruction k q (instruction_of recs at.asm rec x))
        unfolding instruction_of
        instruction_kept = operand_kept recs entry roots has m methods fields self at whole parts_called at.asm rec there place x.at x.opcode x.form x.operand (record { parts = op_part; shows = op_shows; makes = op_makes })

      -- ---- clauses

      caught_kept : (c : Handler) (t : Known TypeExpr) → token_type recs at.asm rec c.token ≡ t → In (type_token_part recs at.asm rec place 0 c.token) (parts_of_method recs at) → IsTrue (if_good (keeps_defined k) t)
      caught_kept c (Bad why) e i = refl
      caught_kept c (Good x) e i =
          defined_by_types k x (part_types recs entry roots has m self at whole (type_token_part recs at.asm rec place 0 c.token) x i (ap (known_map type) e))

      clause_by : (c : Handler) (z : Bool) (why : BadKind) → ((p : Part) → In p (if z then type_token_part recs at.asm rec place 0 c.token ∷ [] else []) → In p (parts_of_method recs at))
          → IsTrue (if_good (keeps_defined k) (if z then token_type recs at.asm rec c.token else Bad why))
      clause_by c false why f = refl
      clause_by c true why f = caught_kept c (token_type recs at.asm rec c.token) refl (f _ (inl refl))

      clause_kept : (c : Handler) → In c b.handlers → IsTrue (keeps_clause k (clause_of recs at.asm rec c))
      unfolding clause_of
      clause_kept c i = clause_by c (is_catch c) _ (λ p j. in_body_parts p (in_behind p code handlers (flat_in (handler_parts recs at.asm rec place) p c b.handlers i j)))

      code_kept : IsTrue (keeps_code k q (view_code.code_of recs at.asm rec b))
      unfolding view_code.code_of
      code_kept =
          and_from (if_good (list_all (keeps_expr k)) (locals_of recs at.asm rec b.locals) && list_all (keeps_instruction k q) (map (instruction_of recs at.asm rec) b.code)) (list_all (keeps_clause k) (map (clause_of recs at.asm rec) b.handlers))
          (and_from (if_good (list_all (keeps_expr k)) (locals_of recs at.asm rec b.locals)) (list_all (keeps_instruction k q) (map (instruction_of recs at.asm rec) b.code)) locals_kept
          (all_mapped (keeps_instruction k q) (instruction_of recs at.asm rec) b.code instruction_kept))
          (all_mapped (keeps_clause k) (clause_of recs at.asm rec) b.handlers clause_kept)

    -- ---- the method

    module _ (reads : (b : Body) → d.body ≡ Some (Good b) → IsTrue (is_read d.signature) × IsTrue (are_locals_read rec b.locals)) where
      some_body : (o : Option (Known Body)) → d.body ≡ o → IsTrue (keeps_body k q (option_map (body_by recs at.asm rec) o))
      some_body None e = refl
      some_body (Some (Bad why)) e = refl
      some_body (Some (Good b)) e = let r = reads b e in code_kept b e r.0 r.1

      body_by_rules : (core platform interface global : Bool) (x y z : BadKind)
          → IsTrue (keeps_body k q (if core then None else if platform then Some (Bad x) else if interface then Some (Bad y) else if global then Some (Bad z) else option_map (body_by recs at.asm rec) d.body))
      body_by_rules true p i g x y z = refl
      body_by_rules false true i g x y z = refl
      body_by_rules false false true g x y z = refl
      body_by_rules false false false true x y z = refl
      body_by_rules false false false false x y z = some_body d.body refl

      owner_home : (owner : RowAt) (o : Option ℕ) → position_from (owns_method (suc at.row)) 0 rec.type_def ≡ o → option_map (at_row at.asm) o ≡ Some owner → type_home recs (type_id recs owner.asm owner.row) ≡ Some owner
      owner_home owner None e g = absurd (cc)
      owner_home owner (Some j) e g =
          let same : at_row at.asm j ≡ owner = cc in
          let f = found (owns_method (suc at.row)) 0 rec.type_def j e in
          let z : f.place ≡ j = omega (arith, f.is) in
          let is : slice_get rec.type_def j ≡ Some f.item = ap (slice_get rec.type_def) (sym z) ∙ f.there in
          subst (λ (r : RowAt). type_home recs (type_id recs r.asm r.row) ≡ Some r) same (own_home recs rec (at_row at.asm j) f.item there is)

      owned_here : (owner : RowAt) → type_of_method recs at ≡ Some owner → option_map (at_row at.asm) (position_from (owns_method (suc at.row)) 0 rec.type_def) ≡ Some owner
      owned_here owner e = sym (ap (option_and_then (λ (r : AsmRec). option_map (at_row at.asm) (position_from (owns_method (suc at.row)) 0 r.type_def))) there) ∙ e

      method_kept : (owner : RowAt) → type_of_method recs at ≡ Some owner → IsTrue (keeps_method k q (method_by recs at rec d owner))
      method_kept owner e =
          let t : TypeId = type_id recs owner.asm owner.row in
          let typ : IsTrue (k.typ t.0) = owner_kept recs entry roots has m at owner (method_is recs has _ h) is_row e in
          let home = owner_home owner (position_from (owns_method (suc at.row)) 0 rec.type_def) refl (owned_here owner e) in
          let own : InOwner recs owns_method (λ (rec : AsmRec). rec.method_def) owner at = record { rec = rec; there = there; below = place_within rec.method_def at.row d row; owned = e } in
          let begun : IsTrue (k.begun t.0) = method_begins_row recs has owner at t own home (typ_has recs has t typ) h in
          let signature = sig_kept (known_then (method_type (names_at recs at.asm rec)) d.signature) refl in
          let body = body_by_rules (is_core_row recs at) (is_platform d) (is_interface_body recs at d) (is_global recs (type_of_method recs at)) (Outside PLATFORM) (Outside INTERFACE_BODY) (Outside GLOBAL_MEMBER) in
          let f : Method = method_by recs at rec d owner in
          and_from (k.typ t.0 && k.begun t.0 && if_good (keeps_signature k) f.signature) (keeps_body k q f.body)
          (and_from (k.typ t.0 && k.begun t.0) (if_good (keeps_signature k) f.signature) (and_from (k.typ t.0) (k.begun t.0) typ begun) signature) body

  -- ---- by its number

  module _ (reads : AreRead recs has) (f : Method) where
    by_owner : (at : RowAt) (rec : AsmRec) (d : MethodDefRow) (o : Option RowAt) → IsTrue (has (marks_method recs at)) → slice_get recs at.asm ≡ Some rec → slice_get rec.method_def at.row ≡ Some d → type_of_method recs at ≡ o
        → option_map (method_by recs at rec d) o ≡ Some f → IsTrue (keeps_method k q f)
    by_owner at rec d None h there row e is = absurd (cc)
    by_owner at rec d (Some owner) h there row e is =
        let same : method_by recs at rec d owner ≡ f = cc in
        subst (λ (x : Method). IsTrue (keeps_method k q x)) same (method_kept at rec d h there row (λ b g. reads at rec d h there row b g) owner e)

    by_row : (at : RowAt) (rec : AsmRec) (o : Option MethodDefRow) → IsTrue (has (marks_method recs at)) → slice_get recs at.asm ≡ Some rec → slice_get rec.method_def at.row ≡ o
        → option_and_then (λ (d : MethodDefRow). option_map (method_by recs at rec d) (type_of_method recs at)) o ≡ Some f → IsTrue (keeps_method k q f)
    by_row at rec None h there row is = absurd (cc)
    by_row at rec (Some d) h there row is = by_owner at rec d (type_of_method recs at) h there row refl is

    by_rec : (at : RowAt) (o : Option AsmRec) → IsTrue (has (marks_method recs at)) → slice_get recs at.asm ≡ o
        → option_and_then (λ (rec : AsmRec). option_and_then (λ (d : MethodDefRow). option_map (method_by recs at rec d) (type_of_method recs at)) (slice_get rec.method_def at.row)) o ≡ Some f → IsTrue (keeps_method k q f)
    by_rec at None h there is = absurd (cc)
    by_rec at (Some rec) h there is = by_row at rec (slice_get rec.method_def at.row) h there refl is

    by_home : (n : ℕ) (o : Option RowAt) → IsTrue (k.method n) → home_from methods_in 0 recs n ≡ o → option_and_then (method_at recs) o ≡ Some f → IsTrue (keeps_method k q f)
    by_home n None h e is = absurd (cc)
    by_home n (Some at) h e is =
        let number = has_number methods_in recs n at e in
        let here : IsTrue (has (marks_method recs at)) = subst (λ (x : ℕ). IsTrue (has (marked (item.Method (record { 0 = x }))))) (sym number) (method_has recs has (record { 0 = n }) h) in
        by_rec at (rec_at recs at) here refl is

    by_number : (n : ℕ) → IsTrue (k.method n) → method_query recs n ≡ Some f → IsTrue (keeps_method k q f)
    unfolding method_query
    by_number n h is = by_home n (home_from methods_in 0 recs n) h refl is

pub methods_kept : MarkedMethods
methods_kept inputs entry roots has sound m methods fields reads follows n f h is = by_number (assemblies inputs) entry roots has m methods fields follows reads f n h is
