use Rattle.merge_laws.proofs.lemmas.merged_signatures.Merges.{sig_moves, method_moves}
use Rattle.merge_laws.proofs.merged_signatures.laws.signatures_move.Goals as goal

pub returns-clause-sigs : goal.returns-clause-sigs
returns-clause-sigs c m is rows a rec there input s e h w = sig_moves m is rows a rec there input s e h w

pub returns-clause-methods : goal.returns-clause-methods
returns-clause-methods c m is rows a rec there input s t h w = method_moves m is rows a rec there input s t h w
