use Rattle.nona_tree.proofs.Turns.{next_turn, turns_stay, for_in_turns, for_out_of_turns}
use Rattle.nona_tree.proofs.laws.state_after.Goals as goal

pub returns-clause-next : goal.returns-clause-next
returns-clause-next c = next_turn

pub returns-clause-stays : goal.returns-clause-stays
returns-clause-stays c = turns_stay

pub returns-clause-all_turns : goal.returns-clause-all_turns
returns-clause-all_turns c = for_in_turns

pub returns-clause-out_of_turns : goal.returns-clause-out_of_turns
returns-clause-out_of_turns c = for_out_of_turns
