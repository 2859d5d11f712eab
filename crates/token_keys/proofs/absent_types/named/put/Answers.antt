use Rattle.std.proofs.lemmas.Map.Text.{hash_map_updates_str}
use Rattle.token_keys.proofs.lemmas.absent_types.NameRows.{put_rows}
use Rattle.token_keys.proofs.absent_types.named.put.Goals as goal

pub returns : goal.returns
returns c =
    put_rows c.args.rows.now c.take_rows-of_name.new.rows c.insert.new.self c.args.name.now c.take_rows-of_name.result c.args.placed
    c.take_rows-of_name.ensures.taken c.take_rows-of_name.ensures.others
    (rw c.in_ok-push.ensures.ok at (hash_map_updates_str c.args.name.now c.take_rows-of_name.new.rows c.insert.new.self _ c.in_ok-insert.ensures.updates))
