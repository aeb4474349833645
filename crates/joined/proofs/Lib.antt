pub mod JoinCalls
