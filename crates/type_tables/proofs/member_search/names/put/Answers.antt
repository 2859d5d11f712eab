use Rattle.std.proofs.lemmas.Map.Text.{hash_map_updates_str}
use Rattle.type_tables.proofs.lemmas.member_search.NameRows.{put_rows}
use Rattle.type_tables.proofs.member_search.names.put.Goals as goal

pub returns : goal.returns
returns c =
    put_rows c.args.rows.now c.take_rows-of_name.new.rows c.insert.new.self c.args.name.now c.take_rows-of_name.result c.args.row
    c.take_rows-of_name.ensures.taken c.take_rows-of_name.ensures.others
    (rw c.in_ok-push.ensures.ok at (hash_map_updates_str c.args.name.now c.take_rows-of_name.new.rows c.insert.new.self _ c.in_ok-insert.ensures.updates))
