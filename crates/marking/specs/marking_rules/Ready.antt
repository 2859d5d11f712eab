-- The premises of the rules over numbers, and what follows from them.
use Rattle.std.specs.Prelude.{◌≡◌, ◌<◌, ℕ, List, [], Bool, false}
use Rattle.std.proofs.Common.{inl, inr}
use Rattle.std.specs.List.{Contains}
use Rattle.il_base.specs.declared.world_model.record.AsmRec.{AsmRec}
use Rattle.il_base.specs.declared.world_model.world.World.{World}
use Rattle.descriptor_file.specs.declared.root.Root.{Root}
use Rattle.closure.specs.Facts.{IsWithin}
use Rattle.mark_parts.specs.declared.mark_tables.marker.Marker.{Marker}
use Rattle.mark_parts.specs.mark_tables.Assemblies.{all_of, IsMarker}
use Rattle.virtual_calls.specs.declared.slots.Slots.{Slots}
use Rattle.virtual_calls.specs.Slots.{AreSlots}
use Rattle.mark_numbers.specs.declared.numbers.Numbers.{Numbers}
use Rattle.mark_numbers.specs.Numbers.{universe}
use Rattle.mark_numbers.specs.Starts.{AreNumbers}
use Rattle.mark_numbers.specs.mark_laws.Brings.{StaysBelow}
use Rattle.marking.specs.marking_rules.Lists.{alone_list, joined_list}
use Rattle.marking.specs.marking_rules.Laws.{ListsBring, JoinedMore}

pub record IsReady (m : Marker) (s : Slots) (n : Numbers) (named : List AsmRec) : Type 0 where
  pub marker : IsMarker m
  pub slots : AreSlots (all_of m) s
  pub numbers : AreNumbers n
  pub world : n.world.now ≡ m.tables.world.now
  pub named_recs : named ≡ all_of m
  pub below : StaysBelow
  pub bring : ListsBring
  pub more : JoinedMore

pub alone_below : (m : Marker) (s : Slots) (n : Numbers) (named : List AsmRec) (roots : List Root) → IsReady m s n named → (k c : ℕ) → Contains (alone_list m.tables.world.now roots k) c → c < universe (all_of m)
alone_below m s n named roots ready k c h =
    let w : World = m.tables.world.now in
    let none : ℕ → Bool = λ x. false in
    ready.below w ready.marker.tables.world roots none k c ((ready.bring w roots none k c).0 (inl h))

pub joined_below : (m : Marker) (s : Slots) (n : Numbers) (named : List AsmRec) → IsReady m s n named → (have : ℕ → Bool) (k c : ℕ) → Contains (joined_list m.tables.world.now have k) c → c < universe (all_of m)
joined_below m s n named ready have k c h =
    let w : World = m.tables.world.now in
    ready.below w ready.marker.tables.world [] have k c ((ready.bring w [] have k c).0 (inr h))

pub is_monotone : (m : Marker) (s : Slots) (n : Numbers) (named : List AsmRec) → IsReady m s n named → (few many : ℕ → Bool) (k c : ℕ) → IsWithin few many
    → Contains (joined_list m.tables.world.now few k) c → Contains (joined_list m.tables.world.now many k) c
is_monotone m s n named ready few many k c within h = ready.more m.tables.world.now few many k c within h
