use Rattle.std.proofs.Common.{sym, ap, ◌∙◌, map}
use Rattle.std.proofs.lemmas.List.{map_push}
use Rattle.std.proofs.lemmas.Map.Text.{hash_map_updates_str}
use Rattle.merged_tables.proofs.lemmas.merged_texts.Placing.{places_more}
use Rattle.merged_tables.proofs.merged_texts.places.Places.meet.Goals as goal

pub returns-in_ok-push-clause-places : goal.returns-in_ok-push-clause-places
returns-in_ok-push-clause-places c =
    places_more c.args.self.now (record { texts = c.push.new.self; tokens = c.insert.new.self; end = c.after-self.result }) c.args.units.now c.requires
    (sym c.if-not-contains_key.ensures)
    (ap (map (λ text. text.now)) c.in_ok-push.ensures.items ∙ map_push (λ text. text.now) c.args.self.now.texts.items c.args.units)
    (hash_map_updates_str c.args.units.now c.args.self.now.tokens c.insert.new.self _ c.in_ok-insert.ensures.updates)
    c.after-self.ensures
