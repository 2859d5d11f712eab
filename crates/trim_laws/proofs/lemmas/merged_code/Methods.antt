-- All of a kept method moves.
use Rattle.std.proofs.Common.{◌≡◌, ◌<◌, suc, Bool, true, false, List, length, codes, Option, Some, None, refl, sym, ap, ◌∙◌}
use Rattle.std.specs.Prelude.{IsTrue, slice_get, bit_and, if◌then◌else◌}
use Rattle.std.specs.Option.{option_map, option_and_then}
use Rattle.il_base.specs.declared.outside.TheConstants.{PLATFORM, INTERFACE_BODY, GLOBAL_MEMBER}
use Rattle.descriptor_file.specs.declared.root.Root.{Root}
use Rattle.il_base.specs.declared.world_model.known.Known.{Known}
use Rattle.il_base.specs.declared.world_model.known.Known.TheVariants.{Good, Bad}
use Rattle.il_base.specs.declared.world_model.known.BadKind.TheVariants.{Outside}
use Rattle.il_base.specs.declared.world_model.types.TypeDefRow.{TypeDefRow}
use Rattle.il_base.specs.declared.world_model.members.MethodDefRow.{MethodDefRow}
use Rattle.il_base.specs.declared.world_model.record.AsmRec.{AsmRec}
use Rattle.il_base.specs.world_model.Core.{same_name}
use Rattle.il_base.specs.world_model.Worlds.{types_in, known_map, known_then}
use Rattle.rules.specs.declared.link_rules.row_at.RowAt.{RowAt}
use Rattle.rules.specs.declared.link_rules.member_type.MethodType.{MethodType}
use Rattle.rules.specs.link_rules.Signatures.{names_at, method_type}
use Rattle.rules.specs.link_rules.Members.{methods_in}
use Rattle.rules.specs.type_rules.Rows.{type_row_at}
use Rattle.rules.specs.type_rules.Slots.{type_of_method, type_of_row}
use Rattle.rules.specs.mark_rules.Places.{type_item}
use Rattle.il_base.specs.declared.cil_values.resolved.Code.{Code}
use Rattle.rules.specs.view_rules.Methods.{signature_by, body_of, method_by, method_at}
use Rattle.rules.specs.merge_rules.Numbers.{kept_types, kept_methods}
use Rattle.rules.specs.change_rules.Change.{Rho, Keep}
use Rattle.rules.specs.change_rules.Answers.{move_signature, move_code, move_method}
use Rattle.rules.specs.world_change_rules.Places.{type_number, keeps_method_row}
use Rattle.rules.specs.world_change_rules.Rows.{move_method_type}
use Rattle.rules.specs.merged_world_rules.Merge.{Merge, before, after}
use Rattle.rules.specs.merged_world_rules.NewNumbers.{rho_of, places_of}
use Rattle.rules.specs.merged_world_rules.Kept.{HasFlags}
use Rattle.merge_laws.proofs.lemmas.merged_places.Rows.{place_past}
use Rattle.merge_laws.proofs.lemmas.merged_places.Worlds.{after_is}
use Rattle.merge_laws.proofs.lemmas.merged_places.Situations.{place, HasNone}
use Rattle.merge_laws.proofs.lemmas.merged_places.Tables.{number_type, number_method, type_kind, method_kind}
use Rattle.merge_laws.proofs.lemmas.merged_places.Whole.{undone_of, places_move}
use Rattle.merge_laws.proofs.lemmas.merged_rows_move.Whole.{marks, signatures}
use Rattle.merge_laws.specs.merged_references.Written.{HasReferenceRows}
use Rattle.trim_laws.specs.marked_merge_rules.Merges.{IsMarkedMerge}
use Rattle.trim_laws.specs.merged_code.Laws.{ReadsCode}

-- ---- methods and signatures of rows

method_is : (recs : List AsmRec) (at : RowAt) (rec : AsmRec) (row : MethodDefRow) → slice_get recs at.asm ≡ Some rec → slice_get rec.method_def at.row ≡ Some row
    → method_at recs at ≡ option_map (method_by recs at rec row) (type_of_method recs at)
method_is recs at rec row e f =
    ap (option_and_then (λ (r : AsmRec). option_and_then (λ (d : MethodDefRow). option_map (method_by recs at r d) (type_of_method recs at)) (slice_get r.method_def at.row))) e
    ∙ ap (option_and_then (λ (d : MethodDefRow). option_map (method_by recs at rec d) (type_of_method recs at))) f

row_type : (recs : List AsmRec) (at : RowAt) (rec : AsmRec) (row : MethodDefRow) → slice_get recs at.asm ≡ Some rec → slice_get rec.method_def at.row ≡ Some row
    → type_of_row recs at ≡ Some (known_then (method_type (names_at recs at.asm rec)) row.signature)
row_type recs at rec row e f =
    ap (option_and_then (λ (r : AsmRec). option_map (λ (x : MethodDefRow). known_then (method_type (names_at recs at.asm r)) x.signature) (slice_get r.method_def at.row))) e
    ∙ ap (option_map (λ (x : MethodDefRow). known_then (method_type (names_at recs at.asm rec)) x.signature)) f

no_method_by : (recs : List AsmRec) (at : RowAt) → HasNone methods_in recs at → (o : Option AsmRec) → slice_get recs at.asm ≡ o
    → option_and_then (λ (r : AsmRec). option_and_then (λ (d : MethodDefRow). option_map (method_by recs at r d) (type_of_method recs at)) (slice_get r.method_def at.row)) o ≡ None
no_method_by recs at none None e = refl
no_method_by recs at none (Some rec) e =
    ap (option_and_then (λ (d : MethodDefRow). option_map (method_by recs at rec d) (type_of_method recs at))) (place_past rec.method_def at.row (none rec e))

pub no_method : (recs : List AsmRec) (at : RowAt) → HasNone methods_in recs at → method_at recs at ≡ None
no_method recs at none = no_method_by recs at none (slice_get recs at.asm) refl

some_same : {A : Type 0} (x y : A) → Some x ≡ Some y → x ≡ y
some_same x y e = cc

signature_moves : (r : Rho) (t : Known MethodType) → known_map signature_by (known_map (move_method_type r) t) ≡ known_map (move_signature r) (known_map signature_by t)
signature_moves r (Good t) = refl
signature_moves r (Bad why) = refl

-- a body that nothing is wrong with
pub body_left : (core platform interface global : Bool) (x : Option (Known Code)) → core ≡ false → platform ≡ false → interface ≡ false → global ≡ false
    → (if core then None else if platform then Some (Bad (Outside PLATFORM)) else if interface then Some (Bad (Outside INTERFACE_BODY)) else if global then Some (Bad (Outside GLOBAL_MEMBER)) else x) ≡ x
body_left core platform interface global x c p i g = λ n.
    if c n then None else if p n then Some (Bad (Outside PLATFORM)) else if i n then Some (Bad (Outside INTERFACE_BODY)) else if g n then Some (Bad (Outside GLOBAL_MEMBER)) else x

-- the core library's methods have none
pub body_none : (core platform interface global : Bool) (x : Option (Known Code)) → core ≡ true
    → (if core then None else if platform then Some (Bad (Outside PLATFORM)) else if interface then Some (Bad (Outside INTERFACE_BODY)) else if global then Some (Bad (Outside GLOBAL_MEMBER)) else x) ≡ None
body_none core platform interface global x c = λ n.
    if c n then None else if platform then Some (Bad (Outside PLATFORM)) else if interface then Some (Bad (Outside INTERFACE_BODY)) else if global then Some (Bad (Outside GLOBAL_MEMBER)) else x

module _ (m : Merge) (entry : Option RowAt) (roots : List Root) (k : Keep) (kept : RowAt → Bool) (is : IsMarkedMerge m entry roots) (flags : HasFlags m k kept) (rows : HasReferenceRows m) (reads : ReadsCode m) where
  abbrev pub typ : RowAt → RowAt
  typ t = place m types_in number_type (type_kind m is.merge) t

  abbrev pub meth : RowAt → RowAt
  meth at = place m methods_in number_method (method_kind m is.merge) at

  typ_is : (t : RowAt) → (places_of m).typ t ≡ typ t
  unfolding kept_types
  typ_is t = refl

  meth_is : (at : RowAt) → (places_of m).method at ≡ meth at
  unfolding kept_methods
  meth_is at = refl

  pub two : length (after m) ≡ 2
  two = ap length (after_is m)

  module _ (at : RowAt) (stays : IsTrue (keeps_method_row k (before m) at)) where
    pub owners : type_of_method (after m) (meth at) ≡ option_map typ (type_of_method (before m) at)
    unfolding kept_types kept_methods
    owners = ((marks m k kept is.merge flags).methods at stays).owner

    types_move : type_of_row (after m) (meth at) ≡ option_map (known_map (move_method_type (rho_of m))) (type_of_row (before m) at)
    unfolding kept_methods
    types_move = signatures m k kept is.merge flags reads.signatures at stays

    -- ---- the owner

    pub owner_kept : (t : RowAt) (row : TypeDefRow) → type_of_method (before m) at ≡ Some t → type_row_at (before m) t ≡ Some row → suc t.asm < length (before m) → m.kept (type_item (before m) t) ≡ true
    owner_kept t row of there lt = sym (flags.types t row lt there) ∙ flags.keeps.owners at t stays of

    owner_number : (t : RowAt) (row : TypeDefRow) → type_of_method (before m) at ≡ Some t → type_row_at (before m) t ≡ Some row → type_number (after m) (typ t) ≡ (rho_of m).typ (type_number (before m) t)
    owner_number t row of there = ap (type_number (after m)) (sym (typ_is t)) ∙ (places_move m (undone_of m) k kept is.merge flags).types t row there (flags.keeps.owners at t stays of)

    -- ---- a row that moves to a row

    module _ (new : RowAt) (moved : meth at ≡ new) (rec' : AsmRec) (row' : MethodDefRow) (there' : slice_get (after m) new.asm ≡ Some rec') (is' : slice_get rec'.method_def new.row ≡ Some row') (rec : AsmRec) (row : MethodDefRow)
        (there : slice_get (before m) at.asm ≡ Some rec) (is_row : slice_get rec.method_def at.row ≡ Some row) (seen : bit_and row'.flags 0x450 ≡ bit_and row.flags 0x450) (name : row'.name ≡ row.name) where
      new_owners : type_of_method (after m) new ≡ option_map typ (type_of_method (before m) at)
      new_owners = ap (type_of_method (after m)) (sym moved) ∙ owners

      type_moves : known_then (method_type (names_at (after m) new.asm rec')) row'.signature ≡ known_map (move_method_type (rho_of m)) (known_then (method_type (names_at (before m) at.asm rec)) row.signature)
      type_moves =
          some_same (known_then (method_type (names_at (after m) new.asm rec')) row'.signature) (known_map (move_method_type (rho_of m)) (known_then (method_type (names_at (before m) at.asm rec)) row.signature))
          (sym (row_type (after m) new rec' row' there' is') ∙ ap (type_of_row (after m)) (sym moved) ∙ types_move
          ∙ ap (option_map (known_map (move_method_type (rho_of m)))) (row_type (before m) at rec row there is_row))

      signature_here : known_map signature_by (known_then (method_type (names_at (after m) new.asm rec')) row'.signature)
          ≡ known_map (move_signature (rho_of m)) (known_map signature_by (known_then (method_type (names_at (before m) at.asm rec)) row.signature))
      signature_here = ap (known_map signature_by) type_moves ∙ signature_moves (rho_of m) (known_then (method_type (names_at (before m) at.asm rec)) row.signature)

      by_owner : (o : Option RowAt) → type_of_method (before m) at ≡ o → ((t : RowAt) → o ≡ Some t → (d : TypeDefRow) × (type_row_at (before m) t ≡ Some d))
          → ((t : RowAt) → o ≡ Some t → body_of (after m) new rec' row' ≡ option_map (known_map (move_code (rho_of m))) (body_of (before m) at rec row))
          → option_map (method_by (after m) new rec' row') (option_map typ o) ≡ option_map (move_method (rho_of m)) (option_map (method_by (before m) at rec row) o)
      by_owner None e has body = refl
      by_owner (Some t) e has body =
          let d = has t refl in
          let number = owner_number t d.0 e d.1 in
          let signature = signature_here in
          let code = body t refl in
          λ i. Some (record { flags = seen i; owner = number i; constructor = same_name (name i) (codes ".ctor"); signature = signature i; body = code i })

      pub row_moves : ((t : RowAt) → type_of_method (before m) at ≡ Some t → (d : TypeDefRow) × (type_row_at (before m) t ≡ Some d))
          → ((t : RowAt) → type_of_method (before m) at ≡ Some t → body_of (after m) new rec' row' ≡ option_map (known_map (move_code (rho_of m))) (body_of (before m) at rec row))
          → method_at (after m) (meth at) ≡ option_map (move_method (rho_of m)) (method_at (before m) at)
      row_moves has body =
          ap (method_at (after m)) moved ∙ method_is (after m) new rec' row' there' is'
          ∙ ap (option_map (method_by (after m) new rec' row')) new_owners
          ∙ by_owner (type_of_method (before m) at) refl has body
          ∙ sym (ap (option_map (move_method (rho_of m))) (method_is (before m) at rec row there is_row))
