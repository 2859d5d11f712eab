-- Objects of members as the definitions have them.
use Rattle.machine_words.specs.declared.cil_objects.member_objects.SeenMember.{SeenMember}
use Rattle.rules.specs.declared.type_rules.found_member.FoundMember.{FoundMember}

-- the member that an object stands for
abbrev pub seen_by : SeenMember → FoundMember
seen_by m = record { item = m.item; owner = m.owner.now }
