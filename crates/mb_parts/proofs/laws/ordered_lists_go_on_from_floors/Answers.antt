use Rattle.mb_parts.proofs.OrderedLaws.{goes_on}
use Rattle.mb_parts.proofs.Advance.{advance}
use Rattle.mb_parts.proofs.Joined.{joins, parts}
use Rattle.mb_parts.proofs.LongestOrdered.{longest}
use Rattle.mb_parts.proofs.laws.ordered_lists_go_on_from_floors.Goals as goal

pub returns : goal.returns
returns c = record {
  goes_on = goes_on;
  advances = λ o s host inner l m h. advance o s host inner m l h;
  joins = λ o s host inner hidden l h k. let j = joins o s host inner hidden l h k in (j.0, j.1.leads);
  parts = λ o s host inner hidden l h. (parts o s host inner hidden l h).ordered;
  longest = longest;
}
