use Rattle.std.proofs.Common.{refl, sym, subst}
use Rattle.mark_parts.specs.mark_tables.Assemblies.{all_of, place_of, rec_of}
use Rattle.merge_plan.specs.declared.moved_parts.tokens.NewTokens.{NewTokens}
use Rattle.token_keys.specs.signature_rows.Laws.{AreNumbers}
use Rattle.token_keys.proofs.lemmas.world_keys.Numbering.{numbers_within, numbers_at}
use Rattle.token_keys.proofs.world_keys.keys.WorldKeys.at.Goals as goal

pub bounds-numbers-asm : goal.bounds-numbers-asm
bounds-numbers-asm c =
    numbers_within (all_of c.args.self.now.marker.now) c.args.self.now.numbers.now c.requires.numbers c.args.asm (rec_of c.in_ok-found.found) (sym c.in_ok-found.ensures.there)

pub returns-clause-are : goal.returns-clause-are
returns-clause-are c =
    let recs = all_of c.args.self.now.marker.now in
    let found = c.in_ok-found.found in
    let own = c.in_ok-found.ensures.is in
    record {
      are = record {
        marker = c.requires.marker;
        asm = own.is;
        recs = own.recs;
        numbers = subst (λ (t : NewTokens). AreNumbers recs (place_of found) (rec_of found) t) (sym c.index-numbers-asm.is)
            (numbers_at recs c.args.self.now.numbers.now c.requires.numbers c.args.asm (rec_of found) (sym c.in_ok-found.ensures.there) (place_of found) own.place c.index-numbers-asm.result);
      };
      recs = refl;
      place = own.place;
    }
