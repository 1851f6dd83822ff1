use Rattle.row_model.proofs.Shares.{share-sum, share-le, share-flow, no_feed, no_out}
use Rattle.row_model.proofs.laws.shares_law.Goals as goal

pub returns : goal.returns
returns c = record {
  sum = share-sum;
  share_le = share-le;
  flow = share-flow;
  no_feed = no_feed;
  no_out = no_out;
}
