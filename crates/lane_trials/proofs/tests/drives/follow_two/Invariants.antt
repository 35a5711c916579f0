use Rattle.bank_shared.specs.Face.{desk_origin, IsPassOf, IsReaderOf, view_of}
use Rattle.lane_trials.specs.Held.{Holds, ReturnsOnce}
use Rattle.lane_trials.proofs.tests.drives.follow_two.Given as goal

abbrev pub invariant-loop-row : goal.invariant-loop-row
invariant-loop-row g l = record {
  reader : IsReaderOf l.desk l.reader;
  first : IsPassOf l.desk l.first.pass;
  first_loan : Holds l.first.loan (desk_origin l.desk) (view_of l.first.pass);
  first_once : ReturnsOnce l.first.gave_back (view_of l.first.pass);
  second : IsPassOf l.desk l.second.pass;
  second_loan : Holds l.second.loan (desk_origin l.desk) (view_of l.second.pass);
  second_once : ReturnsOnce l.second.gave_back (view_of l.second.pass);
}
