-- Folders that stay as they are, or whose calls fail no more often.
use Rattle.std.proofs.Common.{ℕ, List, Option, Some, None, refl, sym, ◌∙◌}
use Rattle.il_outside.specs.Folder.{Files, FolderState, Tells, KeepsFiles, NoFault}

pub keeps_itself : (files : Option Files) → KeepsFiles files files
keeps_itself None = tt
keeps_itself (Some f) = λ name. refl

pub keeps_twice : (a b c : Option Files) → KeepsFiles a b → KeepsFiles b c → KeepsFiles a c
keeps_twice None b c p q = tt
keeps_twice (Some f) None c p q = absurd p
keeps_twice (Some f) (Some g) None p q = q
keeps_twice (Some f) (Some g) (Some h) p q = λ name. q name ∙ p name

pub quiet_itself : (s : FolderState) → NoFault s s
quiet_itself s = (refl, refl, refl)

pub quiet_twice : (a b c : FolderState) → NoFault a b → NoFault b c → NoFault a c
quiet_twice a b c p q = (q.0 ∙ p.0, q.1 ∙ p.1, q.2 ∙ p.2)

pub told_before : (a b : Option Files) (name file : List ℕ) → KeepsFiles a b → Tells b name file → Tells a name file
told_before None b name file p told = tt
told_before (Some f) None name file p told = absurd p
told_before (Some f) (Some g) name file p told = sym (p name) ∙ told
