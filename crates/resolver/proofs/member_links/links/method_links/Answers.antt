use Rattle.resolver.proofs.lemmas.member_links.Telling.{is_scope}
use Rattle.resolver.proofs.member_links.links.method_links.Goals as goal

pub push_methods-requires : goal.push_methods-requires
push_methods-requires c =
    is_scope c.links_tell.ensures _ c.loop-a.a c.requires (rw (← c.as_slice.ensures.value) at c.in_ok-names.ensures) c.in_ok-row_of.ensures c.loop-a-test.true c.index-all-a.is
