-- `answer` meets its contract. Assumes nothing.
use Rattle.calls.proofs.Entry.{entry}
use Rattle.calls.proofs.answer.Goals as goal

pub returns-in-Fork : goal.returns-in-Fork
returns-in-Fork c = search entry

pub returns-in-Clone : goal.returns-in-Clone
returns-in-Clone c = search entry

pub returns-in-Unshare : goal.returns-in-Unshare
returns-in-Unshare c = search entry

pub returns-in-Setns : goal.returns-in-Setns
returns-in-Setns c = search entry

pub returns-in-WriteMap : goal.returns-in-WriteMap
returns-in-WriteMap c = search entry

pub returns-in-WriteSetgroups : goal.returns-in-WriteSetgroups
returns-in-WriteSetgroups c = search entry

pub returns-in-ReadMap : goal.returns-in-ReadMap
returns-in-ReadMap c = search entry

pub returns-in-ReadSetgroups : goal.returns-in-ReadSetgroups
returns-in-ReadSetgroups c = search entry

pub returns-in-SetIds : goal.returns-in-SetIds
returns-in-SetIds c = search entry

pub returns-in-SetGroups : goal.returns-in-SetGroups
returns-in-SetGroups c = search entry

pub returns-in-Capable : goal.returns-in-Capable
returns-in-Capable c = search entry

pub returns-in-Drop : goal.returns-in-Drop
returns-in-Drop c = search entry

pub returns-in-OwnIdsOf : goal.returns-in-OwnIdsOf
returns-in-OwnIdsOf c = search entry

pub returns-in-Translate : goal.returns-in-Translate
returns-in-Translate c = search entry
