-- Both returns say whether the words all stand at their places: what the contract says. Assumes nothing.
use Rattle.std.proofs.Common.{◌≡◌, ◌+◌, ◌*◌, ◌<◌, ◌^◌, ◌∙◌, true, length, ℕ, get_or, sym, ap, subst, arith, rules}
use borrow.Author.Tests.{ne_eqb}
use Rattle.counts.specs.Counts.{every}
use Rattle.counts.proofs.Laws.{every_false}
use Rattle.word.specs.Word.{Bytes, word_at}
use Rattle.records.proofs.Stored.{stands, record_stands}
use Rattle.records.proofs.RouteRecord.is.Goals as goal

pub returns-then-read-sought : goal.returns-then-read-sought
returns-then-read-sought c =
    let ws = c.args.sought.words in
    let n : length ws ≡ 8 = omega arith in
    let small : (k : ℕ) → k < length ws → get_or ws k 0 < 2 ^ 32 = λ k l. search rules in
    let fit : Bytes c.bytes-route.result.now = λ k. search rules in
    let same = c.bytes-route.ensures in
    sym (every_false 8 (stands c.args.self.route.now (c.args.self.number * 32) ws) c.loop-j.j c.loop-j-test.true
    (ne_eqb _ _ (λ e. c.if-read-sought.true (c.read.ensures ∙ ap (λ r. word_at r.now (c.args.self.number * 32 + c.loop-j.j * 4)) same ∙ e))))
    ∙ record_stands c.args.sought c.args.self.route.now c.args.self.number (subst (λ r. Bytes r.now) same fit) c.args.self.inside n small

pub returns : goal.returns
returns c =
    let ws = c.args.sought.words in
    let n : length ws ≡ 8 = omega arith in
    let small : (k : ℕ) → k < length ws → get_or ws k 0 < 2 ^ 32 = λ k l. search rules in
    let fit : Bytes c.bytes-route.result.now = λ k. search rules in
    let all : c.loop-j.j ≡ 8 = omega arith in
    sym (subst (λ (x : ℕ). every x (stands c.args.self.route.now (c.args.self.number * 32) ws) ≡ true) all c.loop-j.invariant)
    ∙ record_stands c.args.sought c.args.self.route.now c.args.self.number (subst (λ r. Bytes r.now) c.bytes-route.ensures fit) c.args.self.inside n small
