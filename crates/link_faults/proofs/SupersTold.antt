-- The graphs of bases and of interfaces are those of the tables.
use Rattle.std.proofs.Common.{◌≡◌, ℕ, suc, Bool, true, false, List, [], ◌∷◌, ◌++◌, map, Option, Some, None, refl, sym, ap, ◌∙◌}
use Rattle.std.specs.Prelude.{if◌then◌else◌, ◌==◌, ◌||◌, slice_get, unwrap_or}
use Rattle.std.specs.List.{list_any, flat_map}
use Rattle.std.specs.Option.{option_map, option_and_then}
use Rattle.std.proofs.lemmas.List.{append-nil, map-append}
use Rattle.std.proofs.lemmas.Grind.{flat_map-append}
use Rattle.il_base.specs.declared.world_model.expr.TypeExpr.{TypeExpr}
use Rattle.il_base.specs.declared.world_model.types.TypeDefRow.{TypeDefRow}
use Rattle.il_base.specs.declared.world_model.types.InterfaceImplRow.{InterfaceImplRow}
use Rattle.il_base.specs.declared.world_model.record.AsmRec.{AsmRec}
use Rattle.il_base.specs.declared.world_model.world.TypeLink.{TypeLink}
use Rattle.il_base.specs.world_model.Tokens.{token_of}
use Rattle.rules.specs.declared.link_rules.row_at.RowAt.{RowAt}
use Rattle.rules.specs.link_rules.Signatures.{token_type}
use Rattle.rules.specs.link_rules.Members.{good_type, only_named, is_interface_row, base_in, base_at}
use Rattle.rules.specs.link_rules.Cycles.{listed, home_of, is_row_of, is_interface_at, is_interface, only_interface, interface_of, interfaces_in, interfaces_at, base_rows, interface_rows}
use Rattle.rules.specs.link_rules.Laws.{TellTokens}
use Rattle.link_faults.specs.Graphs.{next_in}
use Rattle.link_faults.specs.Targets.{id_of, target_of, target_at, named_target_at}
use Rattle.link_faults.specs.Supertypes.{base_target, bases_of, all_bases, interface_flag, interface_flags, if_flagged, interface_at, interfaces_by, interfaces_of, all_interfaces}
use Rattle.link_faults.proofs.Each.{Each, each_flat}
use Rattle.link_faults.proofs.Renamed.{Leads}
use Rattle.link_faults.proofs.Defined.{IsType, id_of_definition, definition_each}
use Rattle.link_faults.proofs.Typed.{TypeAt, type_at, of_type}

module _ (all : List AsmRec) where
  abbrev homes : TypeExpr → List RowAt
  homes e = listed (home_of all e)

  abbrev ids : List RowAt → List ℕ
  ids = map (id_of all)

  ids_listed : (o : Option RowAt) → ids (listed o) ≡ listed (option_map (id_of all) o)
  ids_listed None = refl
  ids_listed (Some at) = refl

  pub id_of_base : (o : Option TypeExpr) → option_map (id_of all) (option_and_then (home_of all) o) ≡ option_and_then (target_of all) o
  id_of_base None = refl
  id_of_base (Some e) = id_of_definition all e

  -- the definition of a type that may be there
  ids_of : (o : Option TypeExpr) → ids (flat_map homes (listed o)) ≡ listed (option_and_then (target_of all) o)
  ids_of None = refl
  ids_of (Some e) = ap ids (append-nil (homes e)) ∙ ids_listed (home_of all e) ∙ ap (λ (o : Option ℕ). listed o) (id_of_definition all e)

  -- ---- interfaces

  abbrev flags : List Bool
  flags = interface_flags all

  abbrev rows_in : RowAt → AsmRec → Bool
  rows_in at rec = list_any is_interface_row (listed (slice_get rec.type_def at.row))

  twice_false : (b : Bool) → (b || false || false) ≡ b
  twice_false true = refl
  twice_false false = refl

  flag_is : (at : RowAt) → IsType all at → is_interface_at all at ≡ unwrap_or (slice_get flags (id_of all at)) false
  flag_is at is =
      let t = type_at all at is in
      ap (λ (o : Option AsmRec). list_any (rows_in at) (listed o)) t.there ∙ ap (λ (o : Option TypeDefRow). list_any is_interface_row (listed o) || false) t.is ∙ twice_false (is_interface_row t.row)
      ∙ ap (λ (o : Option Bool). unwrap_or o false) (sym (of_type (λ a (rec : AsmRec). interface_flag) all at t))

  chosen_by : (e : TypeExpr) (at : RowAt) (b c : Bool) → home_of all e ≡ Some at → b ≡ c → ids (flat_map homes (if b then e ∷ [] else [])) ≡ listed (if c then Some (id_of all at) else None)
  chosen_by e at true true h f = ap ids (append-nil (homes e)) ∙ ap (λ (o : Option RowAt). ids (listed o)) h
  chosen_by e at false false h f = refl
  chosen_by e at true false h f = cc
  chosen_by e at false true h f = cc

  one_false : (b : Bool) → (b || false) ≡ b
  one_false true = refl
  one_false false = refl

  interface_by_home : (e : TypeExpr) (o : Option RowAt) → home_of all e ≡ o → Each (IsType all) (listed o) → ids (flat_map homes (only_interface all (Some e))) ≡ listed (option_and_then (if_flagged flags) (option_map (id_of all) o))
  unfolding is_interface
  interface_by_home e None h each = ap (λ (o : Option RowAt). ids (flat_map homes (if list_any (is_interface_at all) (listed o) then e ∷ [] else []))) h
  interface_by_home e (Some at) h each =
      chosen_by e at (list_any (is_interface_at all) (listed (home_of all e))) (unwrap_or (slice_get flags (id_of all at)) false) h
      (ap (λ (o : Option RowAt). list_any (is_interface_at all) (listed o)) h ∙ one_false (is_interface_at all at) ∙ flag_is at each.0)

  interface_only : (o : Option TypeExpr) → ids (flat_map homes (only_interface all o)) ≡ listed (option_and_then (if_flagged flags) (option_and_then (target_of all) o))
  interface_only None = refl
  interface_only (Some e) =
      interface_by_home e (home_of all e) refl (definition_each all e) ∙ ap (λ (o : Option ℕ). listed (option_and_then (if_flagged flags) o)) (id_of_definition all e)

  ids_joined : (xs ys : List TypeExpr) → ids (flat_map homes (xs ++ ys)) ≡ ids (flat_map homes xs) ++ ids (flat_map homes ys)
  ids_joined xs ys = ap ids (flat_map-append homes xs ys) ∙ map-append (id_of all) (flat_map homes xs) (flat_map homes ys)

  module _ (links : List TypeLink) (told : TellTokens all links) (a : ℕ) (rec : AsmRec) (there : slice_get all a ≡ Some rec) where
    token_told : (token : ℕ) → option_and_then (target_of all) (good_type (token_type all a rec token)) ≡ target_at all links a token
    token_told token = ap (λ k. option_and_then (target_of all) (good_type k)) (sym (told a rec there token))

    named_told : (token : ℕ) → option_and_then (target_of all) (only_named (good_type (token_type all a rec token))) ≡ named_target_at all links a token
    named_told token = ap (λ k. option_and_then (target_of all) (only_named (good_type k))) (sym (told a rec there token))

    pub base_by : (row : TypeDefRow) (b : Bool) → option_and_then (target_of all) (if b then None else only_named (good_type (token_type all a rec row.extends))) ≡ (if b then None else named_target_at all links a row.extends)
    base_by row true = refl
    base_by row false = named_told row.extends

    base_ids : (row : TypeDefRow) → ids (flat_map homes (listed (base_in all a rec row))) ≡ listed (base_target all links a row)
    base_ids row = ids_of (base_in all a rec row) ∙ ap (λ (o : Option ℕ). listed o) (base_by row (row.extends == 0 || is_interface_row row))

    interface_by : (row : InterfaceImplRow) (b : Bool)
        → ids (flat_map homes (if b then only_interface all (good_type (token_type all a rec row.interface)) else [])) ≡ (if b then listed (interface_at all links flags a row.interface) else [])
    interface_by row true =
        interface_only (good_type (token_type all a rec row.interface)) ∙ ap (λ (o : Option ℕ). listed (option_and_then (if_flagged flags) o)) (token_told row.interface)
    interface_by row false = refl

    interface_ids : (token : ℕ) (rows : List InterfaceImplRow) → ids (flat_map homes (flat_map (interface_of all a rec token) rows)) ≡ flat_map (interfaces_by all links flags a token) rows
    interface_ids token [] = refl
    interface_ids token (row ∷ rows) =
        ids_joined (interface_of all a rec token row) (flat_map (interface_of all a rec token) rows)
        ∙ (λ i. interface_by row (is_row_of token row) i ++ interface_ids token rows i)

  -- of a type
  module _ (links : List TypeLink) (told : TellTokens all links) (at : RowAt) (t : TypeAt all at) where
    pub base_is : base_at all at ≡ base_in all at.asm t.rec t.row
    base_is =
        ap (option_and_then (λ (rec : AsmRec). option_and_then (base_in all at.asm rec) (slice_get rec.type_def at.row))) t.there
        ∙ ap (option_and_then (base_in all at.asm t.rec)) t.is

    interfaces_are : interfaces_at all at ≡ flat_map (interface_of all at.asm t.rec (token_of 0x02 (suc at.row))) t.rec.interface_impl
    unfolding interfaces_at
    interfaces_are = ap (λ (o : Option AsmRec). flat_map (interfaces_in all at) (listed o)) t.there ∙ append-nil (interfaces_in all at t.rec)

    bases_told : ids (base_rows all at) ≡ bases_of all links at.asm at.row t.row
    unfolding base_rows
    bases_told = ap (λ (o : Option TypeExpr). ids (flat_map homes (listed o))) base_is ∙ base_ids links told at.asm t.rec t.there t.row

    interfaces_told : ids (interface_rows all at) ≡ interfaces_of all links flags at.asm t.rec.interface_impl at.row t.row
    unfolding interface_rows
    interfaces_told =
        ap (λ (es : List TypeExpr). ids (flat_map homes es)) interfaces_are ∙ interface_ids links told at.asm t.rec t.there (token_of 0x02 (suc at.row)) t.rec.interface_impl

  bases_each : (at : RowAt) → Each (IsType all) (base_rows all at)
  unfolding base_rows
  bases_each at = each_flat (IsType all) homes (listed (base_at all at)) (definition_each all)

  interfaces_each : (at : RowAt) → Each (IsType all) (interface_rows all at)
  unfolding interface_rows
  interfaces_each at = each_flat (IsType all) homes (interfaces_at all at) (definition_each all)

  pub bases_lead : (links : List TypeLink) → TellTokens all links → (at : RowAt) → IsType all at → Leads (base_rows all) (IsType all) (id_of all) (next_in (all_bases all links)) at
  bases_lead links told at is =
      let t = type_at all at is in
      record {
        stays = bases_each at;
        numbered = ap (λ (o : Option (List ℕ)). unwrap_or o []) (of_type (λ a (rec : AsmRec). bases_of all links a) all at t) ∙ sym (bases_told links told at t);
      }

  pub interfaces_lead : (links : List TypeLink) → TellTokens all links → (at : RowAt) → IsType all at → Leads (interface_rows all) (IsType all) (id_of all) (next_in (all_interfaces all links (interface_flags all))) at
  interfaces_lead links told at is =
      let t = type_at all at is in
      record {
        stays = interfaces_each at;
        numbered = ap (λ (o : Option (List ℕ)). unwrap_or o []) (of_type (λ a (rec : AsmRec). interfaces_of all links flags a rec.interface_impl) all at t) ∙ sym (interfaces_told links told at t);
      }
