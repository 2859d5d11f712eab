-- The world of files that nothing refuses.
use Rattle.std.proofs.Common.{◌≡◌, ℕ, List, Option, Some, None, refl, ap, rules}
use Rattle.il_base.specs.declared.world_model.world.World.{World}
use Rattle.rules.specs.declared.link_rules.link_error.LinkError.{LinkError}
use Rattle.rules.specs.link_rules.Linked.{IsWorld, link_fault_of}
use Rattle.inputs.specs.declared.error.InputError.{InputError}
use Rattle.inputs.specs.Files.{or_fault, limit_fault, record_fault, linking_fault, entry_fault, input_fault, records, unlinked_as}
use Rattle.run_rules.specs.Runs.{run_of_files, world_run}
use Rattle.file_runs.specs.Worlds.{IsTaken}

rest_passes : (a b : Option InputError) → or_fault a b ≡ None → b ≡ None
rest_passes None b h = h
rest_passes (Some e) b h = search rules

front_passes : (a b : Option InputError) → or_fault a b ≡ None → a ≡ None
front_passes None b h = refl
front_passes (Some e) b h = h

links : (files : List (List ℕ)) → input_fault files ≡ None → linking_fault files ≡ None
links files h =
    front_passes (linking_fault files) (entry_fault (records files))
    (rest_passes (record_fault 0 files) _ (rest_passes (limit_fault files) _ h))

no_fault : (files : List (List ℕ)) (e : Option LinkError) → unlinked_as files e ≡ None → e ≡ None
no_fault files None h = refl
no_fault files (Some (LinkError.Bad i why token)) h = search rules
no_fault files (Some LinkError.NoMemory) h = search rules

sound : (files : List (List ℕ)) (w : World) → IsTaken files w → link_fault_of (records files) ≡ None
sound files w t = no_fault files (link_fault_of (records files)) (links files t.sound)

pub is_world : (files : List (List ℕ)) (w : World) → IsTaken files w → IsWorld w
is_world files w t = record { inputs = records files; sound = sound files w t; linked = t.world }

-- its run is that of the files
pub runs : (files : List (List ℕ)) (w : World) (input : List ℕ) (n : ℕ) → IsTaken files w → world_run w.recs input n ≡ run_of_files files input n
unfolding run_of_files
runs files w input n t = ap (λ (v : World). world_run v.recs input n) t.world
