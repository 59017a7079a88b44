use Rattle.std.proofs.Common.{rules}
use Rattle.lines.proofs.Splits.{splits, returned, same_words}
use Rattle.lines.proofs.Digits.{numbers}
use Rattle.lines.proofs.Trips.{no_call, round_trip}
use Rattle.lines.proofs.Wholes.{only-whole}
use Rattle.lines.proofs.requests.parse.Goals as goal

pub returns : goal.returns
returns c = record {
  value = search rules;
  split = splits;
  unreturned = returned;
  words = same_words;
  number = numbers;
  unknown = no_call;
  trip = round_trip;
  whole = only-whole;
}
