-- The number of each fact of a world. A fact is there where its item or its type is a row of the world.
use Rattle.std.specs.Prelude.{◌≡◌, ◌<◌, ℕ, ◌+◌, ◌-◌, List, Option, Some, None, slice_get, nat_lt, Bool, true, IsTrue, if◌then◌else◌}
use Rattle.std.specs.Option.{option_map, is_some}
use Rattle.il_base.specs.declared.ids.TypeId.{TypeId}
use Rattle.il_base.specs.declared.ids.Item.{Item}
use Rattle.il_base.specs.declared.world_model.record.AsmRec.{AsmRec}
use Rattle.il_base.specs.world_model.Worlds.{types_in}
use Rattle.il_base.specs.declared.world_model.world.Home.{Home}
use Rattle.il_base.specs.declared.world_model.world.World.{World}
use Rattle.rules.specs.link_rules.Linked.{IsWorld}
use Rattle.rules.specs.mark_rules.Facts.{Fact}
use Rattle.rules.specs.mark_rules.Facts.Fact.{marked, instantiated, reflected, shown}
use Rattle.rules.specs.mark_rules.Places.{row_of}
use Rattle.base_laws.specs.world_laws.Homes.{rows_of, item_count, place_of}

abbrev pub type_total : List AsmRec → ℕ
type_total recs = rows_of types_in recs

-- ---- where each kind of fact begins

abbrev pub before_shown : List AsmRec → ℕ
before_shown recs = item_count recs + type_total recs

abbrev pub before_reflected : List AsmRec → ℕ
before_reflected recs = before_shown recs + type_total recs

abbrev pub universe : List AsmRec → ℕ
universe recs = before_reflected recs + item_count recs

-- ---- numbers

unfoldable pub number_of : List AsmRec → Fact → ℕ
number_of recs (marked i) = place_of recs i
number_of recs (instantiated t) = item_count recs + t.0
number_of recs (shown t) = before_shown recs + t.0
number_of recs (reflected i) = before_reflected recs + place_of recs i

unfoldable pub is_there : List AsmRec → Fact → Bool
is_there recs (marked i) = is_some (row_of recs i)
is_there recs (instantiated t) = nat_lt t.0 (type_total recs)
is_there recs (shown t) = nat_lt t.0 (type_total recs)
is_there recs (reflected i) = is_some (row_of recs i)

-- the number of a fact that is there
abbrev pub number_there : List AsmRec → Fact → Option ℕ
number_there recs f = if is_there recs f then Some (number_of recs f) else None

-- ---- facts by numbers

abbrev pub of_home : (Item → Fact) → Option Home → Option Fact
of_home f h = option_map (λ (h : Home). f h.item) h

unfoldable pub fact_numbered : World → ℕ → Option Fact
fact_numbered w n =
    if nat_lt n (item_count w.recs) then of_home marked (slice_get w.homes n)
    else if nat_lt n (before_shown w.recs) then Some (instantiated (record { 0 = n - item_count w.recs }))
    else if nat_lt n (before_reflected w.recs) then Some (shown (record { 0 = n - before_shown w.recs }))
    else of_home reflected (slice_get w.homes (n - before_reflected w.recs))

-- ---- laws of each world that a link gave

-- the number of a fact that is there is below the bound, and leads back to that fact
abbrev pub FactsFound : Type 0
FactsFound = (w : World) → IsWorld w → (f : Fact) → IsTrue (is_there w.recs f) → (fact_numbered w (number_of w.recs f) ≡ Some f) × (number_of w.recs f < universe w.recs)

-- a fact with a number is there, and has that number
abbrev pub NumbersFound : Type 0
NumbersFound = (w : World) → IsWorld w → (n : ℕ) (f : Fact) → fact_numbered w n ≡ Some f → (number_of w.recs f ≡ n) × IsTrue (is_there w.recs f)
