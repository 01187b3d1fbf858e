-- lists, counts and tests
pub mod Beginnings
mod Members
mod Quorums
mod Tests
mod Put
-- what holds at every moment: the history, and each invariant
mod Histories
mod OneLog
mod PreparedRows
mod CommittedRows
mod Votes
mod Recoveries
mod VotesCover
mod StatesCover
mod Vouched
mod Standing
mod Elections
mod AnsweredRows
mod Invariant
-- it stays true, and chosen rows begin every later view
mod Later
mod Keeps
mod Prior
mod Rises
-- the moves that steps are made of
mod Moves
mod Parts
mod Prepares
mod Opens
mod Regains
mod Learns
mod Used
mod Takes
-- the rules, the steps, and the worlds that a legal list reaches
mod NormalRules
mod TransferRules
mod ChangeRules
mod RecoveryRules
mod Events
mod Replies
mod Reached
-- the laws
mod Agreeing
pub mod Laws
-- a legal list leads to one world
mod Singles
pub mod Unique
-- nothing is invented
mod KeptRows
mod Rows
pub mod Asked
mod Senders
pub mod Answering
-- a legal list, computed
mod Worked
-- the sites go on until all work
mod Going
pub mod Counts
mod Raises
mod Lengths
mod Facts
mod Waiting
mod Starts
mod NeverStale
mod Ballots
mod Follows
mod Regained
mod Acks
mod Commits
mod Asks
mod Heals
mod Serving
pub mod Repeating
pub mod Onward
-- wrong rules by which sites come to a dead end
mod DeadEnds
