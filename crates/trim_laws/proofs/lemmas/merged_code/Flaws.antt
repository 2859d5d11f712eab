-- Nothing is wrong with a kept method of a marked merge: each of its parts names something, and it has no form outside the profile.
use Rattle.std.proofs.Common.{◌≡◌, ℕ, suc, Bool, true, false, List, [], ◌++◌, Option, Some, None, refl, ap}
use Rattle.std.specs.Prelude.{slice_get, ◌==◌, ◌&&◌, ◌||◌, if◌then◌else◌}
use Rattle.std.specs.List.{Contains, flat_map, list_any}
use Rattle.std.specs.Option.{option_and_then}
use Rattle.std.proofs.lemmas.Bool.{and_from, or_left}
use Rattle.std.proofs.lemmas.List.Elements.{Contains-append_left, Contains-append_right}
use Rattle.il_base.specs.declared.ids.Item.{Item}
use Rattle.il_base.specs.declared.outside.TheConstants as outside
use Rattle.il_base.specs.declared.table.TheConstants as table
use Rattle.il_base.specs.declared.body.Body.{Body}
use Rattle.il_base.specs.declared.body.Instr.{Instr}
use Rattle.il_base.specs.declared.body.Handler.{Handler}
use Rattle.il_base.specs.declared.sig.Sig.{Sig}
use Rattle.il_base.specs.declared.sig.MethodSig.{MethodSig}
use Rattle.descriptor_file.specs.declared.root.Root.{Root}
use Rattle.il_base.specs.declared.world_model.known.Known.{Known}
use Rattle.il_base.specs.declared.world_model.known.Known.TheVariants.{Good, Bad}
use Rattle.il_base.specs.declared.world_model.known.BadKind.TheVariants.{Unresolved, Outside}
use Rattle.il_base.specs.declared.world_model.members.StandAloneSigRow.{StandAloneSigRow}
use Rattle.il_base.specs.declared.world_model.members.MethodDefRow.{MethodDefRow}
use Rattle.il_base.specs.declared.world_model.record.AsmRec.{AsmRec}
use Rattle.il_base.specs.world_model.Tokens.{token_of, index_in}
use Rattle.il_base.specs.world_model.Worlds.{known_then}
use Rattle.rules.specs.declared.link_rules.row_at.RowAt.{RowAt}
use Rattle.rules.specs.link_rules.Cycles.{listed}
use Rattle.rules.specs.link_rules.Members.{methods_in, arguments_of}
use Rattle.rules.specs.link_rules.Signatures.{names_at, method_type}
use Rattle.rules.specs.type_rules.Rows.{rec_at}
use Rattle.rules.specs.type_rules.Slots.{type_of_method}
use Rattle.base_laws.proofs.lemmas.known_laws.Lists.{first_in, to_flat, to_option, to_if}
use Rattle.rules.specs.mark_rules.Places.{row_of, method_item}
use Rattle.rules.specs.mark_rules.Naming.{Named, Part, bad_part, type_parts, method_type_parts, method_sig_parts}
use Rattle.rules.specs.mark_rules.Types.{constraints_of}
use Rattle.rules.specs.mark_rules.Bodies.{body_of, is_read, are_locals_read, instruction_parts, locals_row_parts, locals_parts, operands_of, handler_parts, body_parts}
use Rattle.rules.specs.mark_rules.Calls.{row_parts, parts_of_method}
use Rattle.rules.specs.mark_rules.BadItems.{Flaw, flaw, flaw_if, part_flaw, part_flaws, variance_flaws, is_platform, is_interface_body, is_global, body_flaws, method_flaws, flow_flaws, own_flaws, attribute_flaws, flaws_of, of_item}
use Rattle.merge_laws.proofs.lemmas.merged_places.Rows.{place_within}
use Rattle.merge_laws.proofs.lemmas.merged_loads.Flawless.{own_home, not_core}
use Rattle.merge_laws.proofs.lemmas.merged_signatures.Reading.{good_then}
use Rattle.rules.specs.merged_world_rules.Merge.{Merge, before}
use Rattle.trim_laws.specs.marked_merge_rules.Merges.{IsMarkedMerge}
use Rattle.trim_laws.proofs.lemmas.merged_code.Operands.{AreGood}
use Rattle.trim_laws.proofs.lemmas.merged_code.Locals.{good_parts}
use Rattle.trim_laws.proofs.lemmas.merged_code.Kept.{IsKept, body_in}

-- ---- parts among others

fewer : (few all : List Part) → ((p : Part) → Contains few p → Contains all p) → AreGood all → AreGood few
fewer few all inside good p c = good p (inside p c)

-- a flag of a form outside the profile isn't set
not_set : (b : Bool) (at : RowAt) (token what : ℕ) → ((f : Flaw) → Contains (flaw_if b at token what) f → ⊥) → b ≡ false
not_set true at token what none = absurd (none (flaw at token 0 (Outside what)) (first_in _ []))
not_set false at token what none = refl

-- ---- locals that have a reading

read_row : (recs : List AsmRec) (a : ℕ) (rec : AsmRec) (place : ℕ) (o : Option StandAloneSigRow) → AreGood (locals_row_parts recs a rec place o) → list_any (λ (row : StandAloneSigRow). is_read row.signature) (listed o) ≡ true
read_row recs a rec place None good = absurd (let n = (good (bad_part place Unresolved) (first_in (bad_part place Unresolved) [])).1 in cc)
read_row recs a rec place (Some row) good =
    let g = good_parts place (type_parts place) (known_then (arguments_of (names_at recs a rec)) row.signature) good in
    let s = good_then (arguments_of (names_at recs a rec)) row.signature g.0 g.1 in
    or_left (is_read row.signature) false (ap (λ (k : Known (List Sig)). is_read k) s.is)

read_by : (recs : List AsmRec) (a : ℕ) (rec : AsmRec) (place : ℕ) (o : Option StandAloneSigRow) (b : Bool) → AreGood (if b then [] else locals_row_parts recs a rec place o)
    → (b || list_any (λ (row : StandAloneSigRow). is_read row.signature) (listed o)) ≡ true
read_by recs a rec place o true good = refl
read_by recs a rec place o false good = read_row recs a rec place o good

locals_read : (recs : List AsmRec) (a : ℕ) (rec : AsmRec) (place token : ℕ) → AreGood (locals_parts recs a rec place token) → are_locals_read rec token ≡ true
locals_read recs a rec place token good = read_by recs a rec place (option_and_then (slice_get rec.stand_alone_sig) (index_in table.STAND_ALONE_SIG token)) (token == 0) good

module _ (m : Merge) (entry : Option RowAt) (roots : List Root) (is : IsMarkedMerge m entry roots) (at : RowAt) (rec : AsmRec) (row : MethodDefRow) (h : IsKept m at rec row) where
  abbrev recs : List AsmRec
  recs = before m

  abbrev this : Item
  this = method_item (before m) at

  abbrev place : ℕ
  place = token_of table.METHOD_DEF (suc at.row)

  home : row_of (before m) (method_item (before m) at) ≡ Some at
  unfolding row_of
  home = own_home methods_in (before m) at rec h.there (place_within rec.method_def at.row row h.is)

  no_flaw : (f : Flaw) → Contains (flaws_of (before m) (method_item (before m) at)) f → ⊥
  no_flaw f c = is.good f (of_item this f (is.marked this h.keeps) (not_core recs this at home h.input) c)

  no_part : (f : Flaw) → Contains (part_flaws (before m) (method_item (before m) at) at) f → ⊥
  unfolding flaws_of
  no_part f c =
      no_flaw f
      (to_option (λ (x : RowAt). flat_map (λ (r : AsmRec). part_flaws recs this x ++ own_flaws recs this x r ++ attribute_flaws recs this x r) (listed (rec_at recs x))) (row_of recs this) at f home
      (to_option (λ (r : AsmRec). part_flaws recs this at ++ own_flaws recs this at r ++ attribute_flaws recs this at r) (rec_at recs at) rec f h.there
      (Contains-append_left (part_flaws recs this at ++ own_flaws recs this at rec) (attribute_flaws recs this at rec) f (Contains-append_left (part_flaws recs this at) (own_flaws recs this at rec) f c))))

  no_own : (f : Flaw) → Contains (method_flaws (before m) at rec row) f → ⊥
  unfolding flaws_of
  no_own f c =
      no_flaw f
      (to_option (λ (x : RowAt). flat_map (λ (r : AsmRec). part_flaws recs this x ++ own_flaws recs this x r ++ attribute_flaws recs this x r) (listed (rec_at recs x))) (row_of recs this) at f home
      (to_option (λ (r : AsmRec). part_flaws recs this at ++ own_flaws recs this at r ++ attribute_flaws recs this at r) (rec_at recs at) rec f h.there
      (Contains-append_left (part_flaws recs this at ++ own_flaws recs this at rec) (attribute_flaws recs this at rec) f
      (Contains-append_right (part_flaws recs this at) (own_flaws recs this at rec) f
      (Contains-append_left (flat_map (method_flaws recs at rec) (listed (slice_get rec.method_def at.row))) (flow_flaws recs at) f (to_option (method_flaws recs at rec) (slice_get rec.method_def at.row) row f h.is c))))))

  -- ---- no form outside the profile

  pub not_platform : is_platform row ≡ false
  not_platform =
      not_set (is_platform row) at place outside.PLATFORM
      (λ f c. no_own f (Contains-append_left _ (variance_flaws at rec place) f
      (Contains-append_left _ (flaw_if (is_global recs (type_of_method recs at)) at place outside.GLOBAL_MEMBER) f
      (Contains-append_left _ (flaw_if (is_interface_body recs at row) at place outside.INTERFACE_BODY) f
      (Contains-append_right (body_flaws at row row.body) (flaw_if (is_platform row) at place outside.PLATFORM) f c)))))

  pub not_interface_body : is_interface_body (before m) at row ≡ false
  not_interface_body =
      not_set (is_interface_body recs at row) at place outside.INTERFACE_BODY
      (λ f c. no_own f (Contains-append_left _ (variance_flaws at rec place) f
      (Contains-append_left _ (flaw_if (is_global recs (type_of_method recs at)) at place outside.GLOBAL_MEMBER) f
      (Contains-append_right _ (flaw_if (is_interface_body recs at row) at place outside.INTERFACE_BODY) f c))))

  pub not_global : is_global (before m) (type_of_method (before m) at) ≡ false
  not_global =
      not_set (is_global recs (type_of_method recs at)) at place outside.GLOBAL_MEMBER
      (λ f c. no_own f (Contains-append_left _ (variance_flaws at rec place) f (Contains-append_right _ (flaw_if (is_global recs (type_of_method recs at)) at place outside.GLOBAL_MEMBER) f c)))

  -- ---- each part is good

  in_parts : (p : Part) → Contains (row_parts (before m) at rec row) p → Contains (parts_of_method (before m) at) p
  unfolding parts_of_method
  in_parts p c =
      to_option (λ (r : AsmRec). flat_map (row_parts recs at r) (listed (slice_get r.method_def at.row))) (rec_at recs at) rec p h.there
      (to_option (row_parts recs at rec) (slice_get rec.method_def at.row) row p h.is c)

  good_by : (token offset : ℕ) (x : Known Named) → Contains (row_parts (before m) at rec row) (record { token = token; at = offset; named = x }) → (n : Named) × (x ≡ Good n)
  good_by token offset (Good n) c = (n, refl)
  good_by token offset (Bad why) c =
      let p : Part = record { token = token; at = offset; named = Bad why } in
      absurd
      (no_part (flaw at token offset why)
      (to_flat (part_flaw at) (parts_of_method recs at) (flaw at token offset why) (record { item = p; there = in_parts p c; inside = first_in (flaw at token offset why) [] })))

  pub row_good : AreGood (row_parts (before m) at rec row)
  row_good p c = good_by p.token p.at p.named c

  signature_good : AreGood (method_sig_parts (before m) at.asm rec (token_of table.METHOD_DEF (suc at.row)) row.signature)
  signature_good =
      fewer (method_sig_parts recs at.asm rec place row.signature) (row_parts recs at rec row)
      (λ p c.
      Contains-append_left (method_sig_parts recs at.asm rec place row.signature ++ constraints_of recs at.asm rec place) (flat_map (body_parts recs at.asm rec place (is_read row.signature)) (body_of row)) p
      (Contains-append_left (method_sig_parts recs at.asm rec place row.signature) (constraints_of recs at.asm rec place) p c)) row_good

  signature_read : is_read row.signature ≡ true
  signature_read =
      let g = good_parts place (method_type_parts place) (known_then (method_type (names_at recs at.asm rec)) row.signature) signature_good in
      let s = good_then (method_type (names_at recs at.asm rec)) row.signature g.0 g.1 in
      ap (λ (k : Known MethodSig). is_read k) s.is

  -- ---- of a body

  module _ (b : Body) (has : row.body ≡ Some (Good b)) where
    abbrev parts : List Part
    parts = body_parts (before m) at.asm rec (token_of table.METHOD_DEF (suc at.row)) (is_read row.signature) b

    body_good : AreGood parts
    body_good =
        fewer parts (row_parts recs at rec row)
        (λ p c.
        Contains-append_right (method_sig_parts recs at.asm rec place row.signature ++ constraints_of recs at.asm rec place) (flat_map (body_parts recs at.asm rec place (is_read row.signature)) (body_of row)) p
        (to_flat (body_parts recs at.asm rec place (is_read row.signature)) (body_of row) p (record { item = b; there = body_in row b has; inside = c }))) row_good

    abbrev of_locals : List Part
    of_locals = locals_parts (before m) at.asm rec (token_of table.METHOD_DEF (suc at.row)) b.locals

    abbrev of_code : List Part
    of_code = operands_of (before m) at.asm rec (token_of table.METHOD_DEF (suc at.row)) (is_read row.signature) b

    abbrev of_handlers : List Part
    of_handlers = flat_map (handler_parts (before m) at.asm rec (token_of table.METHOD_DEF (suc at.row))) b.handlers

    pub locals_good : AreGood (locals_parts (before m) at.asm rec (token_of table.METHOD_DEF (suc at.row)) b.locals)
    locals_good = fewer of_locals parts (λ p c. Contains-append_left (of_locals ++ of_code) of_handlers p (Contains-append_left of_locals of_code p c)) body_good

    pub code_good : (i : Instr) → Contains b.code i → AreGood (instruction_parts (before m) at.asm rec (token_of table.METHOD_DEF (suc at.row)) i)
    code_good i inside =
        let read = and_from (is_read row.signature) (are_locals_read rec b.locals) signature_read (locals_read recs at.asm rec place b.locals locals_good) in
        fewer (instruction_parts recs at.asm rec place i) parts
        (λ p c.
        Contains-append_left (of_locals ++ of_code) of_handlers p
        (Contains-append_right of_locals of_code p
        (to_if (is_read row.signature && are_locals_read rec b.locals) (flat_map (instruction_parts recs at.asm rec place) b.code) p read
        (to_flat (instruction_parts recs at.asm rec place) b.code p (record { item = i; there = inside; inside = c }))))) body_good

    pub handler_good : (x : Handler) → Contains b.handlers x → AreGood (handler_parts (before m) at.asm rec (token_of table.METHOD_DEF (suc at.row)) x)
    handler_good x inside =
        fewer (handler_parts recs at.asm rec place x) parts
        (λ p c.
        Contains-append_right (of_locals ++ of_code) of_handlers p (to_flat (handler_parts recs at.asm rec place) b.handlers p (record { item = x; there = inside; inside = c }))) body_good
