-- A method of an interface is its own slot, since an interface has no base.
use Rattle.std.proofs.Common.{◌≡◌, Bool, true, false, Option, Some, None, refl, sym, ap, ◌∙◌}
use Rattle.std.specs.Prelude.{not, if◌then◌else◌}
use Rattle.std.specs.Option.{option_and_then}
use Rattle.std.proofs.lemmas.Bool.{true≢false}
use Rattle.il_base.specs.declared.world_model.members.MethodDefRow.{MethodDefRow}
use Rattle.il_base.specs.declared.world_model.record.AsmRec.{AsmRec}
use Rattle.std.specs.Prelude.{List}
use Rattle.rules.specs.declared.link_rules.row_at.RowAt.{RowAt}
use Rattle.rules.specs.link_rules.Members.{type_count}
use Rattle.rules.specs.link_rules.Cycles.{is_interface_at}
use Rattle.rules.specs.type_rules.Slots.{is_virtual, is_new_slot, method_row_at, type_of_method, type_of_row, inherited_by, inherited, slot_by, slot_of_row, slot_within, slot_of}
use Rattle.base_laws.proofs.lemmas.type_laws.Upwards.{has_base}
use Rattle.base_laws.proofs.lemmas.walk_laws.Overrides.{inherits}

module _ (recs : List AsmRec) (at : RowAt) where
  module _ (none : (m : MethodDefRow) → inherited recs at m ≡ None) where
    own_by : (above : RowAt → Option RowAt) (s : RowAt) (v w : Bool) (o : Option RowAt) → o ≡ None → (if not v then None else if w then Some at else slot_by above at o) ≡ Some s → at ≡ s
    own_by above s false w o e h = absurd (cc)
    own_by above s true true o e h = cc
    own_by above s true false None e h = cc
    own_by above s true false (Some b) e h = absurd (cc)

    row_by : (above : RowAt → Option RowAt) (s : RowAt) (o : Option MethodDefRow) → option_and_then (slot_of_row recs above at) o ≡ Some s → at ≡ s
    row_by above s None h = absurd (cc)
    row_by above s (Some m) h = own_by above s (is_virtual m) (is_new_slot m) (inherited recs at m) (none m) h

    only_slot : (s : RowAt) → slot_of recs at ≡ Some s → at ≡ s
    unfolding slot_of slot_within
    only_slot s h = row_by (slot_within recs (type_count recs)) s (method_row_at recs at) h

  -- of an interface
  module _ (owner : RowAt) (of : type_of_method recs at ≡ Some owner) (interface : is_interface_at recs owner ≡ true) where
    none_by : (m : MethodDefRow) (o : Option RowAt) → inherited recs at m ≡ o → o ≡ None
    none_by m None e = refl
    none_by m (Some b) e =
        let i = inherits recs at b m e in
        let same : i.owner ≡ owner = (let f = sym i.owner_is ∙ of in cc) in
        absurd (true≢false (sym interface ∙ ap (is_interface_at recs) (sym same) ∙ (has_base recs i.owner i.base i.base_is).class))

    pub own_slot : (s : RowAt) → slot_of recs at ≡ Some s → at ≡ s
    own_slot s h = only_slot (λ m. none_by m (inherited recs at m) refl) s h

  -- of no type
  module _ (of : type_of_method recs at ≡ None) where
    none_inherited : (m : MethodDefRow) → inherited recs at m ≡ None
    unfolding inherited
    none_inherited m = ap (option_and_then (λ (owner : RowAt). inherited_by recs owner m (type_of_row recs at))) of

    pub untyped_slot : (s : RowAt) → slot_of recs at ≡ Some s → at ≡ s
    untyped_slot s h = only_slot none_inherited s h
