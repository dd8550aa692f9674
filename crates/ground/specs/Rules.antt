-- The rules of the refusal table, each by its number there.
use Rattle.std.specs.Prelude.{ℕ}
use Rattle.ground.specs.declared.rules.Rule.{Rule}
use Rattle.ground.specs.declared.rules.Rule.TheVariants as rule

abbrev pub number_of_rule : Rule → ℕ
number_of_rule rule.Labels = 1
number_of_rule rule.Gaps = 2
number_of_rule rule.Lengths = 3
number_of_rule rule.Room = 4
number_of_rule rule.Wanted = 5
number_of_rule rule.Weight = 6
number_of_rule rule.Ends = 7
number_of_rule rule.Distance = 8
number_of_rule rule.Ring = 9
number_of_rule rule.Fields = 10
number_of_rule rule.Text = 11
number_of_rule rule.Place = 12
number_of_rule rule.Word = 13
number_of_rule rule.Number = 14
number_of_rule rule.Turn = 15
number_of_rule rule.Kind = 23
