-- GetValue and SetValue of FieldInfo. `back` is the state in which the call comes again where the type's initializer is due.
use Rattle.std.specs.Prelude.{ℕ, [], ◌∷◌, true, Option, None, if◌then◌else◌}
use Rattle.std.specs.Option.{option_and_then, option_map}
use Rattle.il_base.specs.declared.ids.Item.{Item}
use Rattle.il_base.specs.declared.ids.Item.TheVariants as item
use Rattle.il_base.specs.declared.world_model.expr.TypeExpr.{TypeExpr}
use Rattle.il_base.specs.declared.core_table.names.CoreName.TheVariants.{InvalidOperationException}
use Rattle.il_base.specs.declared.cil_values.value.Value.{Value}
use Rattle.il_base.specs.declared.cil_values.value.Value.TheVariants as value
use Rattle.il_base.specs.declared.cil_values.state.State.{State}
use Rattle.rules.specs.declared.type_rules.found_member.FoundMember.{FoundMember}
use Rattle.rules.specs.step_rules.Queries.{Queries}
use Rattle.rules.specs.step_rules.Next.{Next}
use Rattle.rules.specs.step_rules.Words.{stuck, stopped, given, had}
use Rattle.rules.specs.step_rules.Closing.{Accessed, accessed}
use Rattle.rules.specs.step_rules.Stores.{fits}
use Rattle.rules.specs.step_rules.Places.{at_place, put_at, global_of, with_global}
use Rattle.rules.specs.step_rules.Raising.{raise}
use Rattle.rules.specs.step_rules.Frames.{started}
use Rattle.rules.specs.step_rules.Fields.{is_static, is_literal, static_type, with_static, field_place}
use Rattle.rules.specs.step_rules.CoreWords.{Gives, CoreForm, gives_nothing, gives_boxed}
use Rattle.rules.specs.step_rules.CoreMembers.{member_by}
use Rattle.rules.specs.step_rules.CoreInvoking.{is_open_owner, with_target, arg_as, by_taken}

-- ---- the field

abbrev pub accessed_in : Queries → TypeExpr → Item → Option Accessed
accessed_in q e (item.Field f) = option_map (accessed f.0 e) (q.field f.0)
accessed_in q e _ = None

-- the field whose object a value names, in the type in which it was found
abbrev pub accessed_by : Queries → State → Value → Option Accessed
accessed_by q s v = option_and_then (λ (m : FoundMember). accessed_in q m.owner m.item) (member_by s v)

-- a literal has no place (II.16.1.2), and a field of an open type none that is known
abbrev pub reachable : Queries → Accessed → State → Next → Next
reachable q a s next =
    if is_literal a then stopped s else if is_open_owner q a.owner then raise q InvalidOperationException s else next

-- ---- GetValue(object)

abbrev pub gives_static : Queries → Accessed → State → Gives → Next
gives_static q a s give = with_static q a s (λ e t. had (global_of t a.id a.owner) t (λ v. gives_boxed q e v t give))

abbrev pub gives_field : Queries → Accessed → State → Gives → ℕ → Next
gives_field q a s give o = field_place q a (value.Object o) s (λ p. at_place q p s (λ v. gives_boxed q p.of v s give))

abbrev pub reads : Queries → Accessed → State → State → Value → Gives → Next
reads q a back s target give =
    if is_static a then started q true a.owner back (λ t. gives_static q a s give)
    else with_target q a.owner target s (gives_field q a s give)

unfoldable pub field_get_form : State → CoreForm
field_get_form back q (v ∷ target ∷ []) s give = given (accessed_by q s v) s (λ a. reachable q a s (reads q a back s target give))
field_get_form back q _ s give = stuck s

-- ---- SetValue(object, object)

-- goes on with a value as a field of a type takes it
abbrev pub with_value : Queries → TypeExpr → Value → State → (Value → Next) → Next
with_value q e v s f = by_taken q s (arg_as q s e v) f

abbrev pub sets_static : Queries → Accessed → State → Gives → Value → Next
sets_static q a s give w = with_static q a s (λ e t. given (fits q e w) t (λ kept. gives_nothing (with_global a.id a.owner kept t) give))

abbrev pub writes_static : Queries → Accessed → State → State → Value → Gives → Next
writes_static q a back s v give =
    had (static_type q a) s (λ e. with_value q e v s (λ w. started q true a.owner back (λ t. sets_static q a s give w)))

abbrev pub writes_field : Queries → Accessed → State → Value → Gives → ℕ → Next
writes_field q a s v give o =
    field_place q a (value.Object o) s (λ p. at_place q p s (λ old. with_value q p.of v s (λ w.
    given (fits q p.of w) s (λ kept. put_at q p kept s (λ t. gives_nothing t give)))))

abbrev pub writes : Queries → Accessed → State → State → Value → Value → Gives → Next
writes q a back s target v give =
    if is_static a then writes_static q a back s v give else with_target q a.owner target s (writes_field q a s v give)

unfoldable pub field_set_form : State → CoreForm
field_set_form back q (v ∷ target ∷ w ∷ []) s give = given (accessed_by q s v) s (λ a. reachable q a s (writes q a back s target w give))
field_set_form back q _ s give = stuck s
