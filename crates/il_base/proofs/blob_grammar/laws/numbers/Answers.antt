use Rattle.il_base.proofs.lemmas.blob_grammar.Numbers.{compressed_again, compressed_found, is_shortest, shortest_least}
use Rattle.il_base.proofs.blob_grammar.laws.numbers.Goals as goal

pub returns-clause-read : goal.returns-clause-read
returns-clause-read c = λ n bytes rest h. compressed_again n bytes h rest

pub returns-clause-found : goal.returns-clause-found
returns-clause-found c = λ n size bytes fits e. compressed_found bytes n size fits e

pub returns-clause-written : goal.returns-clause-written
returns-clause-written c = is_shortest

pub returns-clause-least : goal.returns-clause-least
returns-clause-least c = shortest_least
