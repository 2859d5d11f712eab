-- Where no marked item is bad, signatures and locals of marked methods with bodies have a reading.
use Rattle.std.proofs.Common.{◌≡◌, ℕ, zero, suc, Bool, true, false, List, [], ◌∷◌, ◌++◌, length, Option, Some, None, inl, refl, sym, ap, subst, ◌∙◌, arith}
use Rattle.std.specs.Prelude.{IsTrue, slice_get, not, ◌==◌, ◌||◌, if◌then◌else◌}
use Rattle.std.specs.List.{list_all, list_any, flat_map}
use Rattle.std.specs.Option.{is_some, option_and_then}
use Rattle.std.specs.Cmp.{first_so, second_so}
use Rattle.std.proofs.lemmas.Bool.{or_left, eqb-true}
use Rattle.std.proofs.lemmas.List.{length-append}
use Rattle.il_base.specs.declared.ids.Item.{Item}
use Rattle.il_base.specs.declared.body.Body.{Body}
use Rattle.il_base.specs.declared.sig.Sig.{Sig}
use Rattle.il_base.specs.declared.sig.MethodSig.{MethodSig}
use Rattle.il_base.specs.declared.table.TheConstants.{METHOD_DEF, STAND_ALONE_SIG}
use Rattle.il_base.specs.declared.world_model.known.Known.{Known}
use Rattle.il_base.specs.declared.world_model.known.Known.TheVariants.{Good, Bad}
use Rattle.il_base.specs.declared.world_model.known.BadKind.{BadKind}
use Rattle.il_base.specs.declared.world_model.known.BadKind.TheVariants.{Unresolved}
use Rattle.il_base.specs.declared.world_model.members.MethodDefRow.{MethodDefRow}
use Rattle.il_base.specs.declared.world_model.members.StandAloneSigRow.{StandAloneSigRow}
use Rattle.il_base.specs.declared.world_model.record.AsmRec.{AsmRec}
use Rattle.il_base.specs.world_model.Tokens.{token_of, index_in}
use Rattle.il_base.specs.core_table.Members.{methods_of}
use Rattle.il_base.specs.core_table.Record.{core_record, record_with, method_row, all_methods}
use Rattle.rules.specs.declared.link_rules.row_at.RowAt.{RowAt}
use Rattle.rules.specs.declared.link_rules.core_type_name.CoreTypeName.{CoreTypeName}
use Rattle.rules.specs.link_rules.CoreNames.{missing_names, core_with}
use Rattle.rules.specs.link_rules.Cycles.{listed}
use Rattle.rules.specs.link_rules.Linked.{assemblies}
use Rattle.rules.specs.type_rules.Rows.{rec_at}
use Rattle.base_laws.proofs.lemmas.type_laws.Within.{In, in_front, in_behind, listed_in, flat_in}
use Rattle.base_laws.proofs.lemmas.walk_laws.Finds.{contains}
use Rattle.descriptor_file.specs.declared.root.Root.{Root}
use Rattle.rules.specs.mark_rules.Facts.{Fact}
use Rattle.rules.specs.mark_rules.Places.{method_item, marks_method, row_of, is_core}
use Rattle.rules.specs.mark_rules.Naming.{Part, bad_part, method_sig_parts}
use Rattle.rules.specs.mark_rules.Bodies.{locals_row_parts, locals_parts, handler_parts, is_read, are_locals_read, code_parts, body_parts, body_of}
use Rattle.rules.specs.mark_rules.Types.{constraints_of}
use Rattle.rules.specs.mark_rules.Calls.{row_parts, parts_of_method}
use Rattle.rules.specs.mark_rules.Marking.{Marks}
use Rattle.rules.specs.mark_rules.BadItems.{Flaw, flaw, part_flaw, part_flaws, own_flaws, attribute_flaws, flaws_of, IsFlaw, IsFirstFlaw}
use Rattle.mark_numbers.specs.Numbers.{is_there}
use Rattle.run_laws.proofs.lemmas.marked_laws.Places.{method_row_of}
use Rattle.run_laws.proofs.lemmas.marked_laws.Searches.{last_is}
use Rattle.run_laws.specs.closed_laws.Laws.{OnlyMarks, MarkedReads}

all_at : {A : Type 0} (p : A → Bool) (xs : List A) (k : ℕ) (x : A) → list_all p xs ≡ true → slice_get xs k ≡ Some x → p x ≡ true
all_at p [] k x h e = absurd (cc)
all_at p (y ∷ xs) zero x h e = let same : y ≡ x = cc in ap p (sym same) ∙ first_so (p y) (list_all p xs) h
all_at p (y ∷ xs) (suc k) x h e = all_at p xs k x (second_so (p y) (list_all p xs) h) e

-- ---- the core library's methods have no bodies

abbrev without_body : MethodDefRow → Bool
without_body m = not (is_some m.body)

no_bodies : list_all without_body core_record.method_def ≡ true
unfolding core_record record_with all_methods method_row methods_of
no_bodies = refl

core_methods : (names : List CoreTypeName) → list_all without_body (core_with core_record names).method_def ≡ true
unfolding core_with
core_methods names = no_bodies

core_body : (inputs : List AsmRec) (a k : ℕ) (rec : AsmRec) (d : MethodDefRow) → suc a ≡ length (assemblies inputs) → slice_get (assemblies inputs) a ≡ Some rec → slice_get rec.method_def k ≡ Some d → without_body d ≡ true
unfolding assemblies
core_body inputs a k rec d last there row =
    let names : List CoreTypeName = missing_names (inputs ++ core_record ∷ []) in
    let long = length-append inputs (core_with core_record names ∷ []) in
    let same : core_with core_record names ≡ rec = last_is inputs (core_with core_record names) rec a (omega (arith, last, long)) there in
    all_at without_body rec.method_def k d (subst (λ (r : AsmRec). list_all without_body r.method_def ≡ true) same (core_methods names)) row

-- ---- a bad part of a method is a flaw

module _ (recs : List AsmRec) (at : RowAt) (rec : AsmRec) (d : MethodDefRow) (there : slice_get recs at.asm ≡ Some rec) (row : slice_get rec.method_def at.row ≡ Some d) where
  abbrev place : ℕ
  place = token_of METHOD_DEF (suc at.row)

  abbrev self : Item
  self = method_item recs at

  is_row : row_of recs self ≡ Some at
  is_row = method_row_of recs at rec there d row

  in_parts : (p : Part) → In p (row_parts recs at rec d) → In p (parts_of_method recs at)
  unfolding parts_of_method
  in_parts p i =
      flat_in (λ (rec : AsmRec). flat_map (row_parts recs at rec) (listed (slice_get rec.method_def at.row))) p rec (listed (rec_at recs at)) (listed_in rec (rec_at recs at) there)
      (flat_in (row_parts recs at rec) p d (listed (slice_get rec.method_def at.row)) (listed_in d (slice_get rec.method_def at.row) row) i)

  flaw_in : (why : BadKind) → In (bad_part place why) (row_parts recs at rec d) → In (flaw at place 0 why) (flaws_of recs self)
  unfolding flaws_of
  flaw_in why i =
      let f : Flaw = flaw at place 0 why in
      flat_in (λ (at : RowAt). flat_map (λ (rec : AsmRec). part_flaws recs self at ++ own_flaws recs self at rec ++ attribute_flaws recs self at rec) (listed (rec_at recs at))) f at (listed (row_of recs self)) (listed_in at (row_of recs self) is_row)
      (flat_in (λ (rec : AsmRec). part_flaws recs self at ++ own_flaws recs self at rec ++ attribute_flaws recs self at rec) f rec (listed (rec_at recs at)) (listed_in rec (rec_at recs at) there)
      (in_front f (part_flaws recs self at ++ own_flaws recs self at rec) (attribute_flaws recs self at rec) (in_front f (part_flaws recs self at) (own_flaws recs self at rec)
      (flat_in (part_flaw at) f (bad_part place why) (parts_of_method recs at) (in_parts (bad_part place why) i) (inl refl)))))

  module _ (none : (f : Flaw) → In f (flaws_of recs self) → ⊥) where
    abbrev sig : List Part
    sig = method_sig_parts recs at.asm rec place d.signature

    abbrev constraints : List Part
    constraints = constraints_of recs at.asm rec place

    no_bad : (why : BadKind) → In (bad_part place why) (row_parts recs at rec d) → ⊥
    no_bad why i = none (flaw at place 0 why) (flaw_in why i)

    bad_in_sig : (why : BadKind) → d.signature ≡ Bad why → In (bad_part place why) sig
    bad_in_sig why e = subst (λ (s : Known MethodSig). In (bad_part place why) (method_sig_parts recs at.asm rec place s)) (sym e) (inl refl)

    read_by : (s : Known MethodSig) → d.signature ≡ s → IsTrue (is_read s)
    read_by (Good s) e = refl
    read_by (Bad why) e = absurd (no_bad why (in_front (bad_part place why) (sig ++ constraints) _ (in_front (bad_part place why) sig constraints (bad_in_sig why e))))

    module _ (b : Body) (has_body : d.body ≡ Some (Good b)) where
      in_body : In b (body_of d)
      in_body = subst (λ (x : MethodDefRow). In b (body_of x)) (sym (λ i. record d { body = has_body i })) (inl refl)

      in_locals : (why : BadKind) → In (bad_part place why) (locals_parts recs at.asm rec place b.locals) → In (bad_part place why) (row_parts recs at rec d)
      in_locals why i =
          in_behind (bad_part place why) (sig ++ constraints) _
          (flat_in (body_parts recs at.asm rec place (is_read d.signature)) (bad_part place why) b (body_of d) in_body
          (in_front (bad_part place why) (code_parts recs at.asm rec place (is_read d.signature) b) (flat_map (handler_parts recs at.asm rec place) b.handlers)
          (in_front (bad_part place why) (locals_parts recs at.asm rec place b.locals) _ i)))

      sig_by : (r : StandAloneSigRow) (s : Known (List Sig)) → r.signature ≡ s → ((why : BadKind) → In (bad_part place why) (locals_row_parts recs at.asm rec place (Some r)) → ⊥) → IsTrue (is_read s)
      sig_by r (Good s) e f = refl
      sig_by r (Bad why) e f = absurd (f why (subst (λ (x : StandAloneSigRow). In (bad_part place why) (locals_row_parts recs at.asm rec place (Some x))) (sym (λ i. record r { signature = e i })) (inl refl)))

      row_by : (o : Option StandAloneSigRow) → ((why : BadKind) → In (bad_part place why) (locals_row_parts recs at.asm rec place o) → ⊥) → list_any (λ (r : StandAloneSigRow). is_read r.signature) (listed o) ≡ true
      row_by None f = absurd (f Unresolved (inl refl))
      row_by (Some r) f = or_left (is_read r.signature) false (sig_by r r.signature refl f)

      locals_by : (z : Bool) (o : Option StandAloneSigRow) → ((why : BadKind) → In (bad_part place why) (if z then [] else locals_row_parts recs at.asm rec place o) → ⊥) → (z || list_any (λ (r : StandAloneSigRow). is_read r.signature) (listed o)) ≡ true
      locals_by true o f = refl
      locals_by false o f = row_by o f

      locals_read : IsTrue (are_locals_read rec b.locals)
      locals_read = locals_by (b.locals == 0) (option_and_then (slice_get rec.stand_alone_sig) (index_in STAND_ALONE_SIG b.locals)) (λ why i. no_bad why (in_locals why i))

-- ---- in the world of the inputs

module _ (inputs : List AsmRec) (entry : Option RowAt) (roots : List Root) (has : Fact → Bool) (only : OnlyMarks (assemblies inputs) entry roots has)
    (first : IsFirstFlaw (assemblies inputs) entry (Marks (assemblies inputs) entry roots) None) where
  abbrev recs : List AsmRec
  recs = assemblies inputs

  core_by : (at : RowAt) (b : Bool) (o : Option RowAt) → o ≡ Some at → (suc at.asm == length recs) ≡ b → list_any (λ (x : RowAt). suc x.asm == length recs) (listed o) ≡ (b || false)
  core_by at b None e t = absurd (cc)
  core_by at b (Some x) e t = let same : x ≡ at = cc in ap (λ (y : RowAt). suc y.asm == length recs || false) same ∙ ap (λ (c : Bool). c || false) t

  not_core : (at : RowAt) → row_of recs (method_item recs at) ≡ Some at → (suc at.asm == length recs) ≡ false → is_core recs (method_item recs at) ≡ false
  unfolding is_core
  not_core at e t = core_by at false (row_of recs (method_item recs at)) e t

  method_there : (at : RowAt) → row_of recs (method_item recs at) ≡ Some at → IsTrue (is_there recs (marks_method recs at))
  unfolding is_there
  method_there at e = ap is_some e

  by_place : (at : RowAt) (rec : AsmRec) (d : MethodDefRow) (c : Bool) → (suc at.asm == length recs) ≡ c → IsTrue (has (marks_method recs at)) → slice_get recs at.asm ≡ Some rec
      → slice_get rec.method_def at.row ≡ Some d → (b : Body) → d.body ≡ Some (Good b) → IsTrue (is_read d.signature) × IsTrue (are_locals_read rec b.locals)
  by_place at rec d true c h there row b body =
      let none : without_body d ≡ true = core_body inputs at.asm at.row rec d (eqb-true (suc at.asm) (length recs) c) there row in
      absurd (let f : false ≡ true = sym (ap (λ (o : Option (Known Body)). not (is_some o)) body) ∙ none in cc)
  by_place at rec d false c h there row b body =
      let is : row_of recs (method_item recs at) ≡ Some at = method_row_of recs at rec there d row in
      let known : IsTrue (is_there recs (marks_method recs at)) = method_there at is in
      let marks : Marks recs entry roots (marks_method recs at) = only (marks_method recs at) known h in
      let none : (f : Flaw) → In f (flaws_of recs (method_item recs at)) → ⊥ = λ f i. first f (IsFlaw.of_item (method_item recs at) f marks (not_core at is c) (contains (flaws_of recs (method_item recs at)) f i)) in
      (read_by recs at rec d there row none d.signature refl, locals_read recs at rec d there row none b body)

pub all_read : MarkedReads
all_read inputs entry roots has only first at rec d h there row b body = by_place inputs entry roots has only first at rec d (suc at.asm == length (assemblies inputs)) refl h there row b body
