use Rattle.std.proofs.Common.{refl, ap, ◌∙◌, bytes_eq}
use Rattle.std.specs.List.{list_any}
use Rattle.token_keys.proofs.lemmas.met_keys.Coded.{any_of}
use Rattle.token_keys.proofs.met_keys.codes.Met.has.Goals as goal

pub returns : goal.returns
returns c =
    c.contains.ensures ∙ any_of (λ v. bytes_eq c.args.code.now v.items) (bytes_eq c.args.code.now) (λ v. v.items) (λ v. refl) c.self.inside.codes.keys
    ∙ ap (list_any (bytes_eq c.args.code.now)) c.self.view_is
