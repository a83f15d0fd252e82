-- The graph of each chain is laid out in rings as courses ask.
use Rattle.std.proofs.Common.{◌≡◌, ℕ, ◌-◌, true, List, get_or, refl, sym, ap, ◌∙◌}
use Rattle.std.proofs.lemmas.Option.{get_or_from_slice_get}
use Rattle.redn_kernel.specs.declared.types.ChainInit.{ChainInit}
use Rattle.redn_kernel.specs.declared.types.Program.{Program}
use Rattle.redn_graph.specs.declared.types.Graph.{Graph}
use Rattle.redn_graph.specs.Run.{Mail}
use Rattle.redn_block.specs.Blocks.{block_segments}
use Rattle.redn_proof_ring.specs.Plans.{is_ring}
use Rattle.redn_proof_block.specs.Laying.{no_block, IsLaying}
use Rattle.redn_emit.specs.Graphs.{HasWords}
use Rattle.redn_emit.specs.Layout.{ChainPlan}
use Rattle.redn_proof_layout.specs.Layouts.{segments_named}
use Rattle.redn_proof_layout.specs.PlacedLaws.{AreSound, written_from}
use Rattle.redn_proof_layout.specs.Beginning.{plan_for}
use Rattle.redn_proof_layout.proofs.Granted.{all_granted, written_are_all}
use Rattle.redn_proof_layout.proofs.Whole.{laid_out, all_at}
use Rattle.redn_proof_chain.specs.Formed.{IsFormed}
use Rattle.redn_proof_chain.proofs.Layings.{layings_form}
use Rattle.redn_proof_layout.specs.Chains.{laying, formed}
use Rattle.redn_proof_layout.proofs.Its.{Its}

module _ (p : Program) (graphs : List Graph) (are : AreSound p graphs) (i : ℕ) (c : ChainPlan) (init : ChainInit) (g : Graph) (its : Its p graphs i c init g) (mail : Mail) where
  segments_at : (r : ℕ) → is_ring (plan_for p graphs c) r ≡ true → segments_named c r ≡ block_segments c.first r (get_or g.blocks (r - c.first) no_block)
  segments_at r ring =
      let at = its.rings r ring in
      at.segments_are ∙ ap (block_segments c.first r) (sym (get_or_from_slice_get g.blocks (r - c.first) at.block no_block at.there))

  pub is_laying : IsLaying (laying p graphs c init g mail)
  is_laying =
      record {
        laid = laid_out p graphs are i c its.there;
        number = refl;
        many = its.many;
        blocks = sym its.many;
        fits = (are.each.each i init g its.init_there its.graph_there).fits.each;
        small = (all_at HasWords graphs are.words i g its.graph_there).blocks;
        segments_are = segments_at;
        writes = λ t h. written_are_all p.tables t ∙ h;
        rights = λ x need h allowed. all_granted p graphs are i c its.there (written_from 0 p.tables) (λ t e. sym (written_are_all p.tables t) ∙ e) x need h allowed;
      }

  pub is_formed : IsFormed (formed p graphs c init g mail)
  is_formed = layings_form (laying p graphs c init g mail) is_laying
