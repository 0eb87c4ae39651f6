mod Tasks
