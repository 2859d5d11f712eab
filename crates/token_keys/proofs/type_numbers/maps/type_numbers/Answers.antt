use Rattle.token_keys.proofs.type_numbers.maps.type_numbers.Goals as goal

pub returns : goal.returns
returns c = record { classes = c.in_ok-classes.ensures; modifiers = c.in_ok-modifiers.ensures }
