-- Each table's columns are those at its number.
use Rattle.std.proofs.Common.{◌≤◌, [], length, sym, ap, arith}
use Rattle.std.proofs.lemmas.List.{get_or_past}
use Rattle.il_base.specs.cli_format.Columns.{columns_of, schema}
use Rattle.il_base.proofs.cli_format.schema.columns.Goals as goal

pub returns-in-0-clause-value : goal.returns-in-0-clause-value
unfolding columns_of schema
returns-in-0-clause-value c = sym (ap columns_of c.in-0.is)

pub returns-in-1-clause-value : goal.returns-in-1-clause-value
unfolding columns_of schema
returns-in-1-clause-value c = sym (ap columns_of c.in-1.is)

pub returns-in-2-clause-value : goal.returns-in-2-clause-value
unfolding columns_of schema
returns-in-2-clause-value c = sym (ap columns_of c.in-2.is)

pub returns-in-3-clause-value : goal.returns-in-3-clause-value
unfolding columns_of schema
returns-in-3-clause-value c = sym (ap columns_of c.in-3.is)

pub returns-in-4-clause-value : goal.returns-in-4-clause-value
unfolding columns_of schema
returns-in-4-clause-value c = sym (ap columns_of c.in-4.is)

pub returns-in-5-clause-value : goal.returns-in-5-clause-value
unfolding columns_of schema
returns-in-5-clause-value c = sym (ap columns_of c.in-5.is)

pub returns-in-6-clause-value : goal.returns-in-6-clause-value
unfolding columns_of schema
returns-in-6-clause-value c = sym (ap columns_of c.in-6.is)

pub returns-in-7-clause-value : goal.returns-in-7-clause-value
unfolding columns_of schema
returns-in-7-clause-value c = sym (ap columns_of c.in-7.is)

pub returns-in-8-clause-value : goal.returns-in-8-clause-value
unfolding columns_of schema
returns-in-8-clause-value c = sym (ap columns_of c.in-8.is)

pub returns-in-9-clause-value : goal.returns-in-9-clause-value
unfolding columns_of schema
returns-in-9-clause-value c = sym (ap columns_of c.in-9.is)

pub returns-in-10-clause-value : goal.returns-in-10-clause-value
unfolding columns_of schema
returns-in-10-clause-value c = sym (ap columns_of c.in-10.is)

pub returns-in-11-clause-value : goal.returns-in-11-clause-value
unfolding columns_of schema
returns-in-11-clause-value c = sym (ap columns_of c.in-11.is)

pub returns-in-12-clause-value : goal.returns-in-12-clause-value
unfolding columns_of schema
returns-in-12-clause-value c = sym (ap columns_of c.in-12.is)

pub returns-in-13-clause-value : goal.returns-in-13-clause-value
unfolding columns_of schema
returns-in-13-clause-value c = sym (ap columns_of c.in-13.is)

pub returns-in-14-clause-value : goal.returns-in-14-clause-value
unfolding columns_of schema
returns-in-14-clause-value c = sym (ap columns_of c.in-14.is)

pub returns-in-15-clause-value : goal.returns-in-15-clause-value
unfolding columns_of schema
returns-in-15-clause-value c = sym (ap columns_of c.in-15.is)

pub returns-in-16-clause-value : goal.returns-in-16-clause-value
unfolding columns_of schema
returns-in-16-clause-value c = sym (ap columns_of c.in-16.is)

pub returns-in-17-clause-value : goal.returns-in-17-clause-value
unfolding columns_of schema
returns-in-17-clause-value c = sym (ap columns_of c.in-17.is)

pub returns-in-18-clause-value : goal.returns-in-18-clause-value
unfolding columns_of schema
returns-in-18-clause-value c = sym (ap columns_of c.in-18.is)

pub returns-in-19-clause-value : goal.returns-in-19-clause-value
unfolding columns_of schema
returns-in-19-clause-value c = sym (ap columns_of c.in-19.is)

pub returns-in-20-clause-value : goal.returns-in-20-clause-value
unfolding columns_of schema
returns-in-20-clause-value c = sym (ap columns_of c.in-20.is)

pub returns-in-21-clause-value : goal.returns-in-21-clause-value
unfolding columns_of schema
returns-in-21-clause-value c = sym (ap columns_of c.in-21.is)

pub returns-in-22-clause-value : goal.returns-in-22-clause-value
unfolding columns_of schema
returns-in-22-clause-value c = sym (ap columns_of c.in-22.is)

pub returns-in-23-clause-value : goal.returns-in-23-clause-value
unfolding columns_of schema
returns-in-23-clause-value c = sym (ap columns_of c.in-23.is)

pub returns-in-24-clause-value : goal.returns-in-24-clause-value
unfolding columns_of schema
returns-in-24-clause-value c = sym (ap columns_of c.in-24.is)

pub returns-in-25-clause-value : goal.returns-in-25-clause-value
unfolding columns_of schema
returns-in-25-clause-value c = sym (ap columns_of c.in-25.is)

pub returns-in-26-clause-value : goal.returns-in-26-clause-value
unfolding columns_of schema
returns-in-26-clause-value c = sym (ap columns_of c.in-26.is)

pub returns-in-27-clause-value : goal.returns-in-27-clause-value
unfolding columns_of schema
returns-in-27-clause-value c = sym (ap columns_of c.in-27.is)

pub returns-in-28-clause-value : goal.returns-in-28-clause-value
unfolding columns_of schema
returns-in-28-clause-value c = sym (ap columns_of c.in-28.is)

pub returns-in-29-clause-value : goal.returns-in-29-clause-value
unfolding columns_of schema
returns-in-29-clause-value c = sym (ap columns_of c.in-29.is)

pub returns-in-30-clause-value : goal.returns-in-30-clause-value
unfolding columns_of schema
returns-in-30-clause-value c = sym (ap columns_of c.in-30.is)

pub returns-in-31-clause-value : goal.returns-in-31-clause-value
unfolding columns_of schema
returns-in-31-clause-value c = sym (ap columns_of c.in-31.is)

pub returns-in-32-clause-value : goal.returns-in-32-clause-value
unfolding columns_of schema
returns-in-32-clause-value c = sym (ap columns_of c.in-32.is)

pub returns-in-33-clause-value : goal.returns-in-33-clause-value
unfolding columns_of schema
returns-in-33-clause-value c = sym (ap columns_of c.in-33.is)

pub returns-in-34-clause-value : goal.returns-in-34-clause-value
unfolding columns_of schema
returns-in-34-clause-value c = sym (ap columns_of c.in-34.is)

pub returns-in-35-clause-value : goal.returns-in-35-clause-value
unfolding columns_of schema
returns-in-35-clause-value c = sym (ap columns_of c.in-35.is)

pub returns-in-36-clause-value : goal.returns-in-36-clause-value
unfolding columns_of schema
returns-in-36-clause-value c = sym (ap columns_of c.in-36.is)

pub returns-in-37-clause-value : goal.returns-in-37-clause-value
unfolding columns_of schema
returns-in-37-clause-value c = sym (ap columns_of c.in-37.is)

pub returns-in-38-clause-value : goal.returns-in-38-clause-value
unfolding columns_of schema
returns-in-38-clause-value c = sym (ap columns_of c.in-38.is)

pub returns-in-39-clause-value : goal.returns-in-39-clause-value
unfolding columns_of schema
returns-in-39-clause-value c = sym (ap columns_of c.in-39.is)

pub returns-in-40-clause-value : goal.returns-in-40-clause-value
unfolding columns_of schema
returns-in-40-clause-value c = sym (ap columns_of c.in-40.is)

pub returns-in-41-clause-value : goal.returns-in-41-clause-value
unfolding columns_of schema
returns-in-41-clause-value c = sym (ap columns_of c.in-41.is)

pub returns-in-42-clause-value : goal.returns-in-42-clause-value
unfolding columns_of schema
returns-in-42-clause-value c = sym (ap columns_of c.in-42.is)

pub returns-in-43-clause-value : goal.returns-in-43-clause-value
unfolding columns_of schema
returns-in-43-clause-value c = sym (ap columns_of c.in-43.is)

pub returns-in-44-clause-value : goal.returns-in-44-clause-value
unfolding columns_of schema
returns-in-44-clause-value c = sym (ap columns_of c.in-44.is)

pub returns-in-45-to-255-clause-value : goal.returns-in-45-to-255-clause-value
unfolding columns_of schema
returns-in-45-to-255-clause-value c =
    let above : length schema ≤ c.args.table = omega arith in
    sym (get_or_past schema c.args.table [] above)
