use Rattle.std.proofs.Common.{◌≡◌, ℕ, ◌+◌, ◌<◌, ◌≤◌, List, length, take, Some, subst, ap, ◌∙◌, arith}
use Rattle.std.specs.Prelude.{slice_get}
use Rattle.std.specs.List.{AllZip}
use Rattle.std.proofs.lemmas.List.{take_all}
use Rattle.type_tables.proofs.lemmas.member_search.Zips.{zip_more}
use Rattle.il_base.specs.declared.world_model.record.AsmRec.{AsmRec}
use Rattle.type_tables.specs.declared.groups.Groups.{Groups}
use Rattle.type_tables.specs.Groups.{AreGroups}
use Rattle.mark_parts.specs.mark_tables.Impls.{body_numbers, numbers_from}
use Rattle.mark_parts.proofs.lemmas.mark_tables.Impls.{as_long, numbers_at, gotten, here_at}
use Rattle.mark_parts.proofs.mark_tables.impl_bodies.impl_bodies.Goals as goal

pub loop-a-preserved : goal.loop-a-preserved
loop-a-preserved c =
    let recs = c.args.tables.now.world.now.recs in
    let all = c.as_slice-all.result.now in
    let a = c.loop-a.a in
    let own : List ℕ = body_numbers recs a c.index-all-a.result in
    let z : 0 + a ≡ a = omega arith in
    let there : slice_get (numbers_from recs 0 all) a ≡ Some own =
    numbers_at recs 0 all a c.index-all-a.result (here_at all a c.index-all-a.result c.loop-a-test.true c.index-all-a.is) ∙ ap (λ (n : ℕ). Some (body_numbers recs n c.index-all-a.result)) z in
    let below : a < length (numbers_from recs 0 all) = rw (as_long recs 0 all) c.loop-a-test.true in
    let are : AreGroups own c.in_ok-own.own = subst (λ (n : ℕ). AreGroups (body_numbers recs n c.index-all-a.result) c.in_ok-own.own) c.in_ok-asm.ensures c.in_ok-own.ensures in
    zip_more AreGroups (numbers_from recs 0 all) a own below (gotten (numbers_from recs 0 all) a own there) c.loop-a.impls.items c.in_ok-own.own c.loop-a.invariant are c.push.new.self.items c.in_ok-push.ensures.items

pub returns : goal.returns
returns c =
    let recs = c.args.tables.now.world.now.recs in
    let all = c.as_slice-all.result.now in
    let done : length (numbers_from recs 0 all) ≤ c.loop-a.a = rw (as_long recs 0 all) c.loop-a-test.false in
    let whole : AllZip AreGroups (numbers_from recs 0 all) c.loop-a.impls.items = subst (λ (ns : List (List ℕ)). AllZip AreGroups ns c.loop-a.impls.items) (take_all c.loop-a.a (numbers_from recs 0 all) done) c.loop-a.invariant in
    subst (λ (rs : List AsmRec). AllZip AreGroups (numbers_from recs 0 rs) c.loop-a.impls.items) c.as_slice-all.ensures whole
