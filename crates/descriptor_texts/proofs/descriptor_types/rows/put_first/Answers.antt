use Rattle.std.proofs.Common.{sym}
use Rattle.std.proofs.lemmas.Map.Text.{hash_map_updates_str}
use Rattle.descriptor_texts.proofs.lemmas.descriptor_types.Keeping.{kept, put}
use Rattle.descriptor_texts.proofs.descriptor_types.rows.put_first.Goals as goal

pub returns-then-contains_key : goal.returns-then-contains_key
returns-then-contains_key c = kept c.args.rows.now c.args.rows.now c.args.name.now c.args.row (sym c.if-contains_key.ensures)

pub returns : goal.returns
returns c =
    put c.args.rows.now c.insert.new.self c.args.name.now c.args.row (sym c.if-contains_key.ensures)
    (hash_map_updates_str c.args.name.now c.args.rows.now c.insert.new.self _ c.in_ok-insert.ensures.updates)
