use Rattle.std.proofs.lemmas.Map.Text.{hash_map_updates_str}
use Rattle.merge_plan.proofs.Named.{put_rows}
use Rattle.merge_plan.proofs.rivals.put_type.Goals as goal

pub returns : goal.returns
returns c =
    put_rows c.args.types.now c.take_types-of_name.new.types c.insert.new.self c.args.name.now c.take_types-of_name.result c.args.at
    c.take_types-of_name.ensures.taken c.take_types-of_name.ensures.others
    (rw c.in_ok-push.ensures.ok at (hash_map_updates_str c.args.name.now c.take_types-of_name.new.types c.insert.new.self _ c.in_ok-insert.ensures.updates))
