-- No refusal has number 0, so that a run returns 0 exactly where all its checks pass. Assumes nothing.
use Prim.Native.Nat.{◌≤◌}
use native.Mathlib.Omega.{arith}
use mathlib.Core.Path.{◌≡◌}
use Rattle.std.specs.Prelude.{Err}
use Rattle.model.specs.Answers.{number_of}
use Rattle.model.specs.declared.Fault.{Fault}
use Rattle.model.specs.declared.Kind.{Kind}
use Rattle.model.specs.declared.Kind.TheVariants.{NodeCount, Ceiling, Source, ArcCount, StartCount, Starts, Head, Cost, SegmentCount, LentList, PlanLine, Tail, InputSize, Destination, NoParent, Parents, RouteRoom, RoadForm, RoadOrder, Hold}
use Rattle.theory.specs.Runs.{Inputs}
use Rattle.theory.specs.declared.Levels.{Levels}
use Rattle.checks.specs.Checks.{first_fault, Lengths, run_checks}

pub kind_number : (kind : Kind) → 1 ≤ number_of kind
kind_number NodeCount = omega arith
kind_number Ceiling = omega arith
kind_number Source = omega arith
kind_number ArcCount = omega arith
kind_number StartCount = omega arith
kind_number Starts = omega arith
kind_number Head = omega arith
kind_number Cost = omega arith
kind_number SegmentCount = omega arith
kind_number LentList = omega arith
kind_number PlanLine = omega arith
kind_number Tail = omega arith
kind_number InputSize = omega arith
kind_number Destination = omega arith
kind_number NoParent = omega arith
kind_number Parents = omega arith
kind_number RouteRoom = omega arith
kind_number RoadForm = omega arith
kind_number RoadOrder = omega arith
kind_number Hold = omega arith

pub fault_number : (L : Levels) (I : Inputs) (lengths : Lengths) (fault : Fault) → first_fault (run_checks L I lengths) ≡ Err fault
    → 1 ≤ number_of fault.kind
fault_number L I lengths fault e = kind_number fault.kind
