-- The numbers by which refusals are known.
use Rattle.std.specs.Prelude.{ℕ}
use Rattle.sweep.specs.declared.sweeping.SweepFault.{SweepFault}
use Rattle.sweep.specs.declared.sweeping.SweepFault.TheVariants as sweep
use Rattle.book.specs.declared.fault.PlannerFault.{PlannerFault}
use Rattle.book.specs.declared.fault.PlannerFault.TheVariants.{NoSuchPlace, NoSuchSheet, NoSuchRow, SheetsFull, RowsFull, NoTrip, ForeignTable}

-- the number of each refusal of a book
abbrev pub planner_number : PlannerFault → ℕ
planner_number NoSuchPlace = 12
planner_number NoSuchSheet = 13
planner_number NoSuchRow = 14
planner_number SheetsFull = 17
planner_number RowsFull = 18
planner_number NoTrip = 20
planner_number ForeignTable = 22

-- a refusal of the sweep over slices, as the book tells it
abbrev pub told : SweepFault → PlannerFault
told sweep.ForeignTable = ForeignTable
told sweep.NoSuchPlace = NoSuchPlace
told sweep.RowsFull = RowsFull
