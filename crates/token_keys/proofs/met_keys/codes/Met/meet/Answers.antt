use Rattle.std.proofs.Common.{ℕ, List, map, refl, ap, ◌∙◌, bytes_eq}
use Rattle.rules.specs.merge_rules.Refs.{met_once}
use Rattle.token_keys.proofs.lemmas.met_keys.Coded.{once_of}
use Rattle.token_keys.proofs.met_keys.codes.Met.meet.Goals as goal

pub returns : goal.returns
returns c =
    ap (map (λ v. v.items)) c.in_ok-insert.ensures.keys
    ∙ once_of (λ v. v.items) (λ j k. bytes_eq j.items k.items) (λ j k. refl) c.self.inside.codes.keys c.args.code
    ∙ ap (λ (xs : List (List ℕ)). met_once bytes_eq xs c.args.code.items) c.self.view_is
