use Rattle.std.proofs.Common.{refl, ap, ◌∙◌, bytes_eq}
use Rattle.std.specs.List.{position}
use Rattle.token_keys.proofs.lemmas.met_keys.Coded.{place_of}
use Rattle.token_keys.proofs.met_keys.codes.Met.place.Goals as goal

pub returns : goal.returns
returns c =
    c.get_index_of.ensures.index ∙ place_of (λ v. bytes_eq c.args.code.now v.items) (bytes_eq c.args.code.now) (λ v. v.items) (λ v. refl) c.self.inside.codes.keys
    ∙ ap (position (bytes_eq c.args.code.now)) c.self.view_is
