-- What a call is given, as inputs (document 01, "What the planner holds and leaves out").
use Rattle.theory.specs.Runs.{Inputs, inputs}
use Rattle.checks.specs.declared.Given.{Given}

-- The inputs of a call: the numbers and the words that it is given (document 01, "What the planner holds and leaves out").
abbrev pub inputs_of : Given → Inputs
inputs_of given = inputs given.nodes given.ceiling given.source.0 given.starts.now given.heads.now given.costs.now given.holds.now
