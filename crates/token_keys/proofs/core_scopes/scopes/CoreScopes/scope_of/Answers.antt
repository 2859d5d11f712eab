use Rattle.std.proofs.Common.{sym, ◌∙◌, ◌≡◌, Some}
use Rattle.token_keys.specs.core_scopes.CoreRefs.{all_core_refs}
use Rattle.token_keys.specs.core_scopes.Firsts.{scope_at}
use Rattle.token_keys.proofs.lemmas.core_scopes.Scoping.{bare_at, scope_none, scope_found, scope_missing}
use Rattle.token_keys.proofs.core_scopes.scopes.CoreScopes.scope_of.Goals as goal

pub returns-in_default : goal.returns-in_default
returns-in_default c = c.in_ok-row.ensures ∙ sym (scope_none c.args.recs.now c.args.id (sym c.in_ok-home.ensures ∙ c.in_default.is))

pub returns-in_default-scope_at : goal.returns-in_default-scope_at
returns-in_default-scope_at c =
    c.in_ok-row-2.ensures
    ∙ sym (scope_missing c.args.recs.now c.args.id c.in-Some.at (sym c.in_ok-home.ensures ∙ c.in-Some.is) (sym (c.requires.firsts c.in-Some.at) ∙ sym c.in_default-scope_at.ensures))

pub returns : goal.returns
returns c =
    let f : scope_at (all_core_refs c.args.recs.now) c.in-Some.at ≡ Some c.in-Some-scope_at.first.now = sym (c.requires.firsts c.in-Some.at) ∙ sym c.in-Some-scope_at.ensures in
    c.in_ok-row-3.ensures ∙ bare_at (all_core_refs c.args.recs.now) c.in-Some.at c.in-Some-scope_at.first.now f
    ∙ sym (scope_found c.args.recs.now c.args.id c.in-Some.at (sym c.in_ok-home.ensures ∙ c.in-Some.is) c.in-Some-scope_at.first.now f)
