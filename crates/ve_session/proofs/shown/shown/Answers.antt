use Rattle.std.proofs.Common.{◌≡◌, length, sym, subst}
use Rattle.std.specs.Prelude.{unwrap_or, IfOk}
use Rattle.model_world.specs.declared.command.Request.{Request}
use Rattle.model_world.specs.declared.command.Request.TheVariants as request
use Rattle.ve_answers.specs.Replies.{grid_reply, items_reply, near_reply, node_reply, refs_reply, tree_reply}
use Rattle.ve_offsets.specs.Docs.{page_items}
use Rattle.ve_json.specs.Answers.{reply_of, AnswerCites}
use Rattle.ve_session.specs.Asked.{asker, IsAnswered}
use Rattle.ve_session.proofs.ShownLemmas.{ok_both, shown_over}
use Rattle.ve_session.proofs.shown.shown.Goals as goal

pub returns-in-Tree : goal.returns-in-Tree
returns-in-Tree c =
    let s = c.args.session.now in
    let k = c.args.k in
    record {
      answer = subst (λ (r : Request). IfOk c.tree.result (λ a. IsAnswered r k s a s)) (sym c.in-Tree.is)
          (ok_both (λ a. reply_of a ≡ tree_reply (page_items c.doc_at-doc.result)) AnswerCites (λ a. IsAnswered request.Tree k s a s) c.tree.result
          (shown_over request.Tree k s tree_reply (page_items c.doc_at-doc.result) (λ page. c.replies_are_as_asked.ensures.tree (asker page s k)) c.doc_at-doc.ensures.items)
          c.tree.ensures.reply c.tree.ensures.cites);
    }

pub returns-in-Refs : goal.returns-in-Refs
returns-in-Refs c =
    let s = c.args.session.now in
    let k = c.args.k in
    record {
      answer = subst (λ (r : Request). IfOk c.refs.result (λ a. IsAnswered r k s a s)) (sym c.in-Refs.is)
          (ok_both (λ a. reply_of a ≡ refs_reply (page_items c.doc_at-doc.result)) AnswerCites (λ a. IsAnswered request.Refs k s a s) c.refs.result
          (shown_over request.Refs k s refs_reply (page_items c.doc_at-doc.result) (λ page. c.replies_are_as_asked.ensures.refs (asker page s k)) c.doc_at-doc.ensures.items)
          c.refs.ensures.reply c.refs.ensures.cites);
    }

pub returns-in-ShowItems : goal.returns-in-ShowItems
returns-in-ShowItems c =
    let s = c.args.session.now in
    let k = c.args.k in
    let from = c.in-ShowItems.from in
    let to = c.in-ShowItems.to in
    record {
      answer = subst (λ (r : Request). IsAnswered r k s c.items.result s) (sym c.in-ShowItems.is)
          (shown_over (request.ShowItems from to) k s (λ items. items_reply items from (unwrap_or to (length items))) (page_items c.doc_at-doc.result)
          (λ page. c.replies_are_as_asked.ensures.items (asker page s k) from to) c.doc_at-doc.ensures.items c.items.result c.items.ensures.reply c.items.ensures.cites);
    }

pub returns-in-At : goal.returns-in-At
returns-in-At c =
    let s = c.args.session.now in
    let k = c.args.k in
    let at = c.in-At.at in
    record {
      answer = subst (λ (r : Request). IsAnswered r k s c.node.result s) (sym c.in-At.is)
          (shown_over (request.At at) k s (λ items. node_reply items at) (page_items c.doc_at-doc.result) (λ page. c.replies_are_as_asked.ensures.node (asker page s k) at)
          c.doc_at-doc.ensures.items c.node.result c.node.ensures.reply c.node.ensures.cites);
    }

pub returns-in-Near : goal.returns-in-Near
returns-in-Near c =
    let s = c.args.session.now in
    let k = c.args.k in
    let at = c.in-Near.at in
    let dir = c.in-Near.dir in
    record {
      answer = subst (λ (r : Request). IsAnswered r k s c.near.result s) (sym c.in-Near.is)
          (shown_over (request.Near at dir) k s (λ items. near_reply items at dir) (page_items c.doc_at-doc.result)
          (λ page. c.replies_are_as_asked.ensures.near (asker page s k) at dir) c.doc_at-doc.ensures.items c.near.result c.near.ensures.reply c.near.ensures.cites);
    }

pub returns-in-Grid : goal.returns-in-Grid
returns-in-Grid c =
    let s = c.args.session.now in
    let k = c.args.k in
    let at = c.in-Grid.at in
    record {
      answer = subst (λ (r : Request). IfOk c.grid.result (λ a. IsAnswered r k s a s)) (sym c.in-Grid.is)
          (ok_both (λ a. reply_of a ≡ grid_reply (page_items c.doc_at-doc.result) at) AnswerCites (λ a. IsAnswered (request.Grid at) k s a s) c.grid.result
          (shown_over (request.Grid at) k s (λ items. grid_reply items at) (page_items c.doc_at-doc.result) (λ page. c.replies_are_as_asked.ensures.grid (asker page s k) at) c.doc_at-doc.ensures.items)
          c.grid.ensures.reply c.grid.ensures.cites);
    }
