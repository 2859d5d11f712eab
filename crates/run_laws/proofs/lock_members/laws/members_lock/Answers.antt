use Rattle.run_laws.proofs.lemmas.lock_members.Members as members
use Rattle.run_laws.proofs.lock_members.laws.members_lock.Goals as goal

pub returns : goal.returns
returns c m plain k q' q a args s f g h cs gl = members.member_lock k q' q a m plain args s f g h cs gl
